-- A top call's answer from its two halves.
use Rattle.std.proofs.Common.{◌≡◌, ◌∙◌, sym, subst, refl, ℕ, ◌+◌, ◌<◌, ◌≤◌, List, [], length, Option, Some, None, Result, Ok, Err, inl, inr, arith}
use Rattle.std.proofs.KnownBytes.{Appends-nil}
use Rattle.std.specs.Prelude.{◌≢◌, ◌⊎◌, IfSome}
use Rattle.std.specs.Io.KnownBytes.{Appends}
use Rattle.cj_tokens.specs.declared.refusal.Refused.{Refused}
use Rattle.cj_io.specs.Reading.{GaveAtMost, GaveMore}
use Rattle.cj_driver.specs.Outside.{Outside, outside, longest, AreWhole, WasRead}
use Rattle.cj_driver.specs.Made.{IsNothing}
use Rattle.cj_driver.specs.Answers.{HasAnswer, TopStands, IsStatus, CountsFaults, HasCauses, IsComplete, Answers, AnswersUnread}
use Rattle.cj_driver.specs.Steps.{BytesStop, StopStands, Finishes, StopFinishes, Writes}
use Rattle.cj_driver.specs.declared.finish.Finish.{Finish}
use Rattle.cj_driver.specs.declared.finish.Made.{Made}
use Rattle.cj_driver.specs.declared.reading.Stop.{Stop}
use Rattle.cj_driver.specs.declared.reading.Stop.TheVariants as stop

-- ---- what reading told

-- the bytes that were read are those that were there
same_bytes : (given left : Option (List ℕ)) (bytes known : List ℕ) → AreWhole given left bytes → given ≡ Some known → bytes ≡ known
same_bytes given left bytes known whole is =
    let P : Option (List ℕ) → Type 0 = λ g. IfSome g (λ k. bytes ≡ k) in
    subst P is whole.all

-- known bytes have one reading
one_reading : {A : Type 0} (R : List ℕ → Result A Refused → Type 0) (given left : Option (List ℕ)) (answer other : Result A Refused) (known : List ℕ) →
    WasRead R given left answer → given ≡ Some known → R known other → other ≡ answer
one_reading R given left answer other known read is reads =
    let same : known ≡ read.bytes = sym (same_bytes given left read.bytes known read.whole is) in
    let P : List ℕ → Type 0 = λ bytes. R bytes other in
    read.only other (subst P same reads)

-- what was read whole was not too long
not_more : (given left : Option (List ℕ)) (bytes : List ℕ) (known rest : List ℕ) → AreWhole given left bytes → given ≡ Some known →
    longest + length rest < length known → ⊥
not_more given left bytes known rest whole is more =
    let same : bytes ≡ known = same_bytes given left bytes known whole is in
    let P : List ℕ → Type 0 = λ b. length b ≤ longest in
    let short : length known ≤ longest = subst P same whole.short in
    omega arith

-- what was too long is longer than the longest input
longer : (given left : Option (List ℕ)) (known : List ℕ) → GaveMore given left longest → given ≡ Some known → longest < length known
longer given None known more is =
    let P : Option (List ℕ) → Type 0 = λ g. GaveMore g None longest in
    absurd (subst P is more)
longer given (Some rest) known more is =
    let P : Option (List ℕ) → Type 0 = λ g. GaveMore g (Some rest) longest in
    let gave : longest + length rest < length known = subst P is more in omega arith

-- ---- a text was read

written_some : (s : ℕ) → (s ≡ 0) ⊎ (s ≡ 5) → (s ≡ 0) ⊎ (s ≡ 5) ⊎ (s ≡ 6)
written_some s (inl e) = inl e
written_some s (inr e) = inr (inl e)

not_six : {A : Type 0} (s : ℕ) → (s ≡ 0) ⊎ (s ≡ 5) → s ≡ 6 → A
not_six s (inl e) six = let never : 0 ≡ 6 = sym e ∙ six in absurd (omega arith)
not_six s (inr e) six = let never : 5 ≡ 6 = sym e ∙ six in absurd (omega arith)

-- what is owed was written
pub written : {IsOwed : Made → List ℕ → Type 0} {made : Made} {owed : List ℕ} {had has : Option (List ℕ)} {faults faults_now : ℕ} {f : Finish} →
    IsOwed made owed → Writes made owed had has faults faults_now f → Finishes IsOwed had has faults faults_now f
written {IsOwed = IsOwed} {owed = owed} {f = f} owes w =
    let owed_now : IsOwed f.made owed = subst (λ (m : Made). IsOwed m owed) (sym w.kept) owes in
    record {
      some = written_some f.status w.some;
      refused = w.refused;
      done = λ s. (owed, owed_now, w.done s);
      cut = λ s. let cut = w.cut s in (owed, cut.0, owed_now, cut.1);
      fault = w.fault;
      calm = w.calm;
      none = λ s. not_six f.status w.some s;
    }

-- want of memory: nothing was written
pub wanted : {IsOwed : Made → List ℕ → Type 0} {had : Option (List ℕ)} {faults : ℕ} {f : Finish} → f.status ≡ 6 → f.refused ≡ None → IsNothing f.made →
    Finishes IsOwed had had faults faults f
wanted {had = had} status refused nothing = record {
  some = inr (inr status);
  refused = refused;
  done = λ s. let never : 6 ≡ 0 = sym status ∙ s in absurd (omega arith);
  cut = λ s. let never : 6 ≡ 5 = sym status ∙ s in absurd (omega arith);
  fault = λ s. let never : 6 ≡ 5 = sym status ∙ s in absurd (omega arith);
  calm = λ s. refl;
  none = λ s. (nothing, Appends-nil had);
}

zero_five_six : (s : ℕ) → (s ≡ 0) ⊎ (s ≡ 5) ⊎ (s ≡ 6) → s ≢ 0 → s ≢ 5 → s ≡ 6
zero_five_six s (inl e) no_zero no_five = absurd (no_zero e)
zero_five_six s (inr (inl e)) no_zero no_five = absurd (no_five e)
zero_five_six s (inr (inr e)) no_zero no_five = e

is_status : (s : ℕ) → (s ≡ 0) ⊎ (s ≡ 5) ⊎ (s ≡ 6) → IsStatus s
is_status s (inl e) = inl e
is_status s (inr (inl e)) = inr (inr (inr (inl e)))
is_status s (inr (inr e)) = inr (inr (inr (inr (inl e))))

-- another status than these three does not come
never : {A : Type 0} (s n : ℕ) → (s ≡ 0) ⊎ (s ≡ 5) ⊎ (s ≡ 6) → s ≡ n → n ≢ 0 → n ≢ 5 → n ≢ 6 → A
never s n (inl e) is a b c = absurd (a (sym is ∙ e))
never s n (inr (inl e)) is a b c = absurd (b (sym is ∙ e))
never s n (inr (inr e)) is a b c = absurd (c (sym is ∙ e))

-- done, or want of memory, where a write fault did not come
done_or_six : (s : ℕ) → (s ≡ 0) ⊎ (s ≡ 5) ⊎ (s ≡ 6) → (s ≡ 5 → ⊥) → (s ≡ 0) ⊎ (s ≡ 6)
done_or_six s (inl e) no_five = inl e
done_or_six s (inr (inl e)) no_five = absurd (no_five e)
done_or_six s (inr (inr e)) no_five = inr e

-- what is owed is what is told
told_stands : (IsOwed IsTold : Made → List ℕ → Type 0) (o : Outside) (f : Finish) → ((made : Made) (owed : List ℕ) → IsOwed made owed → IsTold made owed) →
    Finishes IsOwed o.had o.has o.write_faults o.write_faults_now f → TopStands IsTold o f
told_stands IsOwed IsTold o f tell fin = record {
  done = λ s. let owed = fin.done s in (owed.0, tell f.made owed.0 owed.1, owed.2);
  cut = λ s. let owed = fin.cut s in (owed.0, owed.1, tell f.made owed.0 owed.2, owed.3);
  stop = λ a b. let none = fin.none (zero_five_six f.status fin.some a b) in record { unwritten = none.1; nothing = none.0 };
}

read_stands : {A : Type 0} (R : List ℕ → Result A Refused → Type 0) (IsOwed : A → Made → List ℕ → Type 0) (i : A) (o : Outside) (f : Finish) →
    WasRead R o.given o.left (Ok i) → Finishes (IsOwed i) o.had o.has o.write_faults o.write_faults_now f → TopStands (HasAnswer R IsOwed o) o f
read_stands R IsOwed i o f read fin =
    told_stands (IsOwed i) (HasAnswer R IsOwed o) o f (λ made owed owes. record { text = i; read = read; owes = owes }) fin

read_causes : {A : Type 0} (R : List ℕ → Result A Refused → Type 0) (IsOwed : A → Made → List ℕ → Type 0) (i : A) (o : Outside) (f : Finish) →
    WasRead R o.given o.left (Ok i) → Finishes (IsOwed i) o.had o.has o.write_faults o.write_faults_now f → HasCauses R o f
read_causes R IsOwed i o f read fin = record {
  some = is_status f.status fin.some;
  refused = λ s. never f.status 3 fin.some s (omega arith) (omega arith) (omega arith);
  refused_alone = λ s. fin.refused;
  refused_owed = λ bytes r told reads not_four. let same : Err r ≡ Ok i = one_reading R o.given o.left (Ok i) (Err r) bytes read told.given reads in cc;
  read = λ s. never f.status 4 fin.some s (omega arith) (omega arith) (omega arith);
  long = λ s. never f.status 7 fin.some s (omega arith) (omega arith) (omega arith);
  long_owed = λ told. absurd (not_more o.given o.left read.bytes told.bytes told.rest read.whole told.given told.more);
}

-- the source was read without a fault, or not at all
written_faults : (IsOwed : Made → List ℕ → Type 0) (o : Outside) (f : Finish) → o.read_faults_now ≡ o.read_faults →
    Finishes IsOwed o.had o.has o.write_faults o.write_faults_now f → CountsFaults o f
written_faults IsOwed o f calm fin = record {
  read = λ s. never f.status 4 fin.some s (omega arith) (omega arith) (omega arith);
  read_calm = λ s. calm;
  write = fin.fault;
  write_calm = fin.calm;
}

pub read_answers : {A : Type 0} {R : List ℕ → Result A Refused → Type 0} {IsOwed : A → Made → List ℕ → Type 0} {i : A} {o : Outside} {f : Finish} →
    WasRead R o.given o.left (Ok i) → o.read_faults_now ≡ o.read_faults → Finishes (IsOwed i) o.had o.has o.write_faults o.write_faults_now f →
    Answers R IsOwed o f
read_answers {R = R} {IsOwed = IsOwed} {i = i} {o = o} {f = f} read calm fin = record {
  headline = read_stands R IsOwed i o f read fin;
  causes = read_causes R IsOwed i o f read fin;
  faults = written_faults (IsOwed i) o f calm fin;
  complete = λ calm. done_or_six f.status fin.some (λ s. calm.no_write_fault (fin.fault s));
}

-- ---- the bench, which reads nothing

pub benched : {IsOwed : Made → List ℕ → Type 0} {had has : Option (List ℕ)} {writes writes_now : ℕ} {f : Finish} (given : Option (List ℕ)) (reads : ℕ) →
    Finishes IsOwed had has writes writes_now f → AnswersUnread IsOwed (outside given given had has reads reads writes writes_now) f
benched {IsOwed = IsOwed} {had = had} {has = has} {writes = writes} {writes_now = writes_now} {f = f} given reads fin =
    let o : Outside = outside given given had has reads reads writes writes_now in
    record {
      headline = told_stands IsOwed IsOwed o f (λ made owed owes. owes) fin;
      unread = record { left = refl; faults = refl };
      some = fin.some;
      refused = fin.refused;
      faults = written_faults IsOwed o f refl fin;
      complete = λ calm. done_or_six f.status fin.some (λ s. calm (fin.fault s));
    }

-- ---- no text was read

stop_stands : {A : Type 0} (R : List ℕ → Result A Refused → Type 0) (IsOwed : A → Made → List ℕ → Type 0) (o : Outside) (f : Finish) → Appends o.had o.has [] →
    IsNothing f.made → f.status ≢ 0 → f.status ≢ 5 → TopStands (HasAnswer R IsOwed o) o f
stop_stands R IsOwed o f unwritten nothing no_zero no_five = record {
  done = λ s. absurd (no_zero s);
  cut = λ s. absurd (no_five s);
  stop = λ a b. record { unwritten = unwritten; nothing = nothing };
}

-- a status is one number
apart : {A : Type 0} (s m n : ℕ) → s ≡ m → s ≡ n → m ≢ n → A
apart s m n a b differ = absurd (differ (sym a ∙ b))

-- the sink was not touched, and the source counted no fault
calm_faults : (o : Outside) (f : Finish) (s : ℕ) → f.status ≡ s → s ≢ 4 → s ≢ 5 → o.read_faults_now ≡ o.read_faults → o.write_faults_now ≡ o.write_faults →
    CountsFaults o f
calm_faults o f s is no_four no_five read write = record {
  read = λ e. apart f.status s 4 is e no_four;
  read_calm = λ no. read;
  write = λ e. apart f.status s 5 is e no_five;
  write_calm = λ no. write;
}

stop_faults : {A : Type 0} (R : List ℕ → Result A Refused → Type 0) (o : Outside) (s : Stop) (f : Finish) → o.write_faults_now ≡ o.write_faults →
    StopStands R o.given o.left o.read_faults o.read_faults_now s → StopFinishes s f → CountsFaults o f
stop_faults R o (stop.Refused r) f write stands fin = calm_faults o f 3 fin.status (omega arith) (omega arith) stands.1 write
stop_faults R o stop.ReadFault f write stands fin = record {
  read = λ e. stands.0;
  read_calm = λ no. absurd (no fin.status);
  write = λ e. apart f.status 4 5 fin.status e (omega arith);
  write_calm = λ no. write;
}
stop_faults R o stop.TooLong f write stands fin = calm_faults o f 7 fin.status (omega arith) (omega arith) stands.1 write
stop_faults R o stop.NoMemory f write stands fin = calm_faults o f 6 fin.status (omega arith) (omega arith) stands write

-- what was taken up to a fault is not more than the longest input
at_most : (given left : Option (List ℕ)) (known rest : List ℕ) → GaveAtMost given left longest → given ≡ Some known → left ≡ Some rest →
    longest + length rest < length known → ⊥
at_most given left known rest gave is kept more =
    let P : Option (List ℕ) → Type 0 = λ g. GaveAtMost g left longest in
    let Q : Option (List ℕ) → Type 0 = λ l. GaveAtMost (Some known) l longest in
    let short : length known ≤ longest + length rest = subst Q kept (subst P is gave) in omega arith

too_short : (bytes : List ℕ) → length bytes ≤ longest → longest < length bytes → ⊥
too_short bytes short more = omega arith

stop_causes : {A : Type 0} (R : List ℕ → Result A Refused → Type 0) (o : Outside) (s : Stop) (f : Finish) →
    StopStands R o.given o.left o.read_faults o.read_faults_now s → StopFinishes s f → HasCauses R o f
stop_causes R o (stop.Refused r) f stands fin = record {
  some = inr (inl fin.status);
  refused = λ e. record { refused = r; told = fin.refused; read = stands.0 };
  refused_alone = λ no. absurd (no fin.status);
  refused_owed = λ bytes x told reads not_four. inl fin.status;
  read = λ e. apart f.status 3 4 fin.status e (omega arith);
  long = λ e. apart f.status 3 7 fin.status e (omega arith);
  long_owed = λ told. absurd (not_more o.given o.left stands.0.bytes told.bytes told.rest stands.0.whole told.given told.more);
}
stop_causes R o stop.ReadFault f stands fin = record {
  some = inr (inr (inl fin.status));
  refused = λ e. apart f.status 4 3 fin.status e (omega arith);
  refused_alone = λ no. fin.refused;
  refused_owed = λ bytes x told reads not_four. absurd (not_four fin.status);
  read = λ e. stands.1;
  long = λ e. apart f.status 4 7 fin.status e (omega arith);
  long_owed = λ told. absurd (at_most o.given o.left told.bytes told.rest stands.1 told.given told.left told.more);
}
stop_causes R o stop.TooLong f stands fin = record {
  some = inr (inr (inr (inr (inr fin.status))));
  refused = λ e. apart f.status 7 3 fin.status e (omega arith);
  refused_alone = λ no. fin.refused;
  refused_owed = λ bytes x told reads not_four. let more : longest
      < length bytes = longer o.given o.left bytes stands.0 told.given in absurd (too_short bytes told.short more);
  read = λ e. apart f.status 7 4 fin.status e (omega arith);
  long = λ e. stands.0;
  long_owed = λ told. inl fin.status;
}
stop_causes R o stop.NoMemory f stands fin = record {
  some = inr (inr (inr (inr (inl fin.status))));
  refused = λ e. apart f.status 6 3 fin.status e (omega arith);
  refused_alone = λ no. fin.refused;
  refused_owed = λ bytes x told reads not_four. inr fin.status;
  read = λ e. apart f.status 6 4 fin.status e (omega arith);
  long = λ e. apart f.status 6 7 fin.status e (omega arith);
  long_owed = λ told. inr fin.status;
}

-- a source that gives a text and counts no fault is not left so, want of memory aside
stop_complete : {A : Type 0} (R : List ℕ → Result A Refused → Type 0) (o : Outside) (s : Stop) (f : Finish) →
    StopStands R o.given o.left o.read_faults o.read_faults_now s → StopFinishes s f → IsComplete R o f
stop_complete R o (stop.Refused r) f stands fin calm =
    let same : Ok calm.text ≡ Err r = one_reading R o.given o.left (Err r) (Ok calm.text) calm.bytes stands.0 calm.given calm.reads in cc
stop_complete R o stop.ReadFault f stands fin calm = absurd (calm.no_read_fault stands.0)
stop_complete R o stop.TooLong f stands fin calm =
    let more : longest < length calm.bytes = longer o.given o.left calm.bytes stands.0 calm.given in absurd (too_short calm.bytes calm.short more)
stop_complete R o stop.NoMemory f stands fin calm = inr fin.status

-- another status than 0 and 5
no_answer : (s : Stop) (f : Finish) → StopFinishes s f → (f.status ≢ 0) × (f.status ≢ 5)
no_answer (stop.Refused r) f fin = (λ e. apart f.status 3 0 fin.status e (omega arith), λ e. apart f.status 3 5 fin.status e (omega arith))
no_answer stop.ReadFault f fin = (λ e. apart f.status 4 0 fin.status e (omega arith), λ e. apart f.status 4 5 fin.status e (omega arith))
no_answer stop.TooLong f fin = (λ e. apart f.status 7 0 fin.status e (omega arith), λ e. apart f.status 7 5 fin.status e (omega arith))
no_answer stop.NoMemory f fin = (λ e. apart f.status 6 0 fin.status e (omega arith), λ e. apart f.status 6 5 fin.status e (omega arith))

-- a call that stopped before it touched the sink
pub stopped : {A : Type 0} {R : List ℕ → Result A Refused → Type 0} {IsOwed : A → Made → List ℕ → Type 0} {given left had : Option (List ℕ)}
    {faults faults_now writes : ℕ} {s : Stop} {f : Finish} → StopStands R given left faults faults_now s → StopFinishes s f →
    Answers R IsOwed (outside given left had had faults faults_now writes writes) f
stopped {R = R} {IsOwed = IsOwed} {given = given} {left = left} {had = had} {faults = faults} {faults_now = now} {writes = writes} {s = s} {f = f} stands fin =
    let o : Outside = outside given left had had faults now writes writes in
    let no = no_answer s f fin in
    record {
      headline = stop_stands R IsOwed o f (Appends-nil had) fin.nothing no.0 no.1;
      causes = stop_causes R o s f stands fin;
      faults = stop_faults R o s f refl stands fin;
      complete = stop_complete R o s f stands fin;
    }

-- where no bytes were read, no text was
pub bytes_stop : {A : Type 0} (R : List ℕ → Result A Refused → Type 0) (given left : Option (List ℕ)) (faults faults_now : ℕ) (s : Stop) →
    BytesStop given left faults faults_now s → StopStands R given left faults faults_now s
bytes_stop R given left faults faults_now (stop.Refused r) h = absurd h
bytes_stop R given left faults faults_now stop.ReadFault h = h
bytes_stop R given left faults faults_now stop.TooLong h = h
bytes_stop R given left faults faults_now stop.NoMemory h = h
