-- Formats: readings that find exactly the items whose words stand in front.
use Rattle.std.proofs.Common.{◌≡◌, ℕ, zero, suc, ◌<◌, ◌≤◌, List, [], ◌∷◌, ◌++◌, length, refl, sym, ap, ◌∙◌, subst, append_assoc}
use Rattle.std.specs.Prelude.{Option, Some, None, Bool, true, false, cond, All, nat_lt, nat_le, ◌==◌}
use Rattle.std.specs.List.{flat_map}
use Rattle.std.proofs.lemmas.List.{append-nil}
use Rattle.std.proofs.lemmas.List.Elements.{All-cons, All-nil, All-tail, All-head}
use Rattle.std.proofs.lemmas.Bool.{ltb-true, lt-ltb, leb-true, le-leb, eqb-true}
use Rattle.std.proofs.lemmas.Option.{cond_some}
use Rattle.cj_spelling.specs.Spelling.{counted}
use Rattle.cj_spelling.specs.Formats.{Read, Reading, ◌>>=◌, made, only, two_at, three_at, four_at, each_at, counted_at, word_at, below_at, at_most_at}

pub record IsFormat {A : Type 0} (In : A → Type 0) (spell : A → List ℕ) (read : Reading A) : Type 0 where
  pub reads : (x : A) (rest : List ℕ) → In x → read (spell x ++ rest) ≡ Some (x, rest)
  pub spells : (ws : List ℕ) (x : A) (rest : List ℕ) → read ws ≡ Some (x, rest) → In x × (ws ≡ spell x ++ rest)

-- ---- what a reading went through

pub record Bound {X Y : Type 0} (r : Option X) (f : X → Option Y) (y : Y) : Type 0 where
  pub from : X
  pub is : r ≡ Some from
  pub then : f from ≡ Some y

pub bound : {X Y : Type 0} (r : Option X) (f : X → Option Y) (y : Y) → (r >>= f) ≡ Some y → Bound r f y
bound None f y e = cc
bound (Some x) f y e = record { from = x; is = refl; then = e }

some_same : {X : Type 0} (x y : X) → Some x ≡ Some y → x ≡ y
some_same x y e = cc

pub first_same : {X : Type 0} (x y : X) (v w : List ℕ) → ◌≡◌ {A = Read X} (Some (x, v)) (Some (y, w)) → x ≡ y
first_same {X} x y v w e = ap (λ (p : X × List ℕ). p.0) (some_same (x, v) (y, w) e)

pub rest_same : {X : Type 0} (x y : X) (v w : List ℕ) → ◌≡◌ {A = Read X} (Some (x, v)) (Some (y, w)) → v ≡ w
rest_same {X} x y v w e = ap (λ (p : X × List ℕ). p.1) (some_same (x, v) (y, w) e)

pub record Made {X Y : Type 0} (f : X → Y) (r : Read X) (y : Y) (rest : List ℕ) : Type 0 where
  pub from : X
  pub is : f from ≡ y
  pub read : r ≡ Some (from, rest)

pub made_from : {X Y : Type 0} (f : X → Y) (r : Read X) (y : Y) (rest : List ℕ) → made f r ≡ Some (y, rest) → Made f r y rest
made_from f None y rest e = cc
made_from f (Some x) y rest e = record {
  from = x.0;
  is = first_same (f x.0) y x.1 rest e;
  read = ap (λ w. Some (x.0, w)) (rest_same (f x.0) y x.1 rest e);
}

pub only_from : {X : Type 0} (test : X → Bool) (r : Read X) (x : X) (rest : List ℕ) → only test r ≡ Some (x, rest) → (test x ≡ true) × (r ≡ Some (x, rest))
only_from test None x rest e = cc
only_from {X} test (Some y) x rest e =
    let p = cond_some (test y.0) y (x, rest) e in
    (subst (λ (z : X × List ℕ). test z.0 ≡ true) p.1 p.0, ap Some p.1)

-- ---- words

pub word_from : (ws : List ℕ) (w : ℕ) (rest : List ℕ) → word_at ws ≡ Some (w, rest) → ws ≡ w ∷ rest
word_from [] w rest e = cc
word_from (v ∷ vs) w rest e = rw (first_same v w vs rest e, rest_same v w vs rest e) refl

abbrev pub one_word : ℕ → List ℕ
one_word w = w ∷ []

pub word_format : IsFormat (λ w. Unit {0}) one_word word_at
word_format = record {
  reads = λ w rest u. refl;
  spells = λ ws w rest e. (tt, word_from ws w rest e);
}

-- ---- formats of formats

pub only_format : {A : Type 0} {In : A → Type 0} {spell : A → List ℕ} {read : Reading A} (P : A → Type 0) (test : A → Bool) → ((x : A) → test x ≡ true → P x) →
    ((x : A) → P x → test x ≡ true) → IsFormat In spell read → IsFormat (λ x. In x × P x) spell (λ ws. only test (read ws))
only_format {A} {In} {spell} {read} P test sound complete F = record {
  reads = λ x rest h. rw (F.reads x rest h.0, complete x h.1) refl;
  spells = λ ws x rest e.
      let p = only_from test (read ws) x rest e in
      let s = F.spells ws x rest p.1 in
      ((s.0, sound x p.0), s.1);
}

pub made_format : {A B : Type 0} {In : A → Type 0} {spell : A → List ℕ} {read : Reading A} (f : A → B) (g : B → A) → ((a : A) → g (f a) ≡ a) →
    ((b : B) → f (g b) ≡ b) → IsFormat In spell read → IsFormat (λ b. In (g b)) (λ b. spell (g b)) (λ ws. made f (read ws))
made_format {A} {B} {In} {spell} {read} f g back forth F = record {
  reads = λ b rest h. rw (F.reads (g b) rest h, forth b) refl;
  spells = λ ws b rest e.
      let m = made_from f (read ws) b rest e in
      let s = F.spells ws m.from rest m.read in
      let same : g b ≡ m.from = ap g (sym m.is) ∙ back m.from in
      (subst In (sym same) s.0, s.1 ∙ ap (λ a. spell a ++ rest) (sym same));
}

pub same_format : {A : Type 0} {In : A → Type 0} {spell : A → List ℕ} {read : Reading A} (In' : A → Type 0) → ((x : A) → In x → In' x) →
    ((x : A) → In' x → In x) → IsFormat In spell read → IsFormat In' spell read
same_format In' to from F = record {
  reads = λ x rest h. F.reads x rest (from x h);
  spells = λ ws x rest e. let s = F.spells ws x rest e in (to x s.0, s.1);
}

pub below_format : (bound : ℕ) → IsFormat (λ w. w < bound) one_word (below_at bound)
below_format bound =
    same_format (λ w. w < bound) (λ w h. h.1) (λ w h. (tt, h))
    (only_format (λ w. w < bound) (λ w. nat_lt w bound) (λ w e. ltb-true w bound e) (λ w h. lt-ltb w bound h) word_format)

pub at_most_format : (most : ℕ) → IsFormat (λ w. w ≤ most) one_word (at_most_at most)
at_most_format most =
    same_format (λ w. w ≤ most) (λ w h. h.1) (λ w h. (tt, h))
    (only_format (λ w. w ≤ most) (λ w. nat_le w most) (λ w e. leb-true w most e) (λ w h. le-leb w most h) word_format)

-- ---- two, three and four items

pub record Two {A B Z : Type 0} (InA : A → Type 0) (InB : B → Type 0) (words : A → B → List ℕ) (f : A → B → Z) (ws : List ℕ) (z : Z)
    (rest : List ℕ) : Type 0 where
  pub a : A
  pub b : B
  pub is : f a b ≡ z
  pub in_a : InA a
  pub in_b : InB b
  pub spelled : ws ≡ words a b ++ rest

pub two_reads : {A B Z : Type 0} {InA : A → Type 0} {InB : B → Type 0} {sA : A → List ℕ} {sB : B → List ℕ} {rA : Reading A} {rB : Reading B} (f : A → B → Z) →
    IsFormat InA sA rA → IsFormat InB sB rB → (a : A) (b : B) (rest : List ℕ) → InA a → InB b → two_at f rA rB ((sA a ++ sB b) ++ rest) ≡ Some (f a b, rest)
two_reads {sA = sA} {sB = sB} f FA FB a b rest ia ib =
    rw (append_assoc (sA a) (sB b) rest, FA.reads a (sB b ++ rest) ia, FB.reads b rest ib) refl

pub two_spells : {A B Z : Type 0} {InA : A → Type 0} {InB : B → Type 0} {sA : A → List ℕ} {sB : B → List ℕ} {rA : Reading A} {rB : Reading B} (f : A → B → Z) →
    IsFormat InA sA rA → IsFormat InB sB rB → (ws : List ℕ) (z : Z) (rest : List ℕ) → two_at f rA rB ws ≡ Some (z, rest) →
    Two InA InB (λ a b. sA a ++ sB b) f ws z rest
two_spells {A} {B} {Z} {InA} {InB} {sA} {sB} {rA} {rB} f FA FB ws z rest e =
    let more : A → B × List ℕ → Read Z = λ a y. Some (f a y.0, y.1) in
    let one = bound (rA ws) (λ x. rB x.1 >>= more x.0) (z, rest) e in
    let two = bound (rB one.from.1) (more one.from.0) (z, rest) one.then in
    let sa = FA.spells ws one.from.0 one.from.1 one.is in
    let sb = FB.spells one.from.1 two.from.0 two.from.1 two.is in
    let last : two.from.1 ≡ rest = rest_same (f one.from.0 two.from.0) z two.from.1 rest two.then in
    record {
      a = one.from.0;
      b = two.from.0;
      is = first_same (f one.from.0 two.from.0) z two.from.1 rest two.then;
      in_a = sa.0;
      in_b = sb.0;
      spelled = sa.1 ∙ ap (λ w. sA one.from.0 ++ w) (sb.1 ∙ ap (λ w. sB two.from.0 ++ w) last) ∙ sym (append_assoc (sA one.from.0) (sB two.from.0) rest);
    }

pub record Three {A B C Z : Type 0} (InA : A → Type 0) (InB : B → Type 0) (InC : C → Type 0) (words : A → B → C → List ℕ) (f : A → B → C →
    Z) (ws : List ℕ) (z : Z) (rest : List ℕ) : Type 0 where
  pub a : A
  pub b : B
  pub c : C
  pub is : f a b c ≡ z
  pub in_a : InA a
  pub in_b : InB b
  pub in_c : InC c
  pub spelled : ws ≡ words a b c ++ rest

pub three_reads : {A B C Z : Type 0} {InA : A → Type 0} {InB : B → Type 0} {InC : C → Type 0} {sA : A → List ℕ} {sB : B → List ℕ} {sC : C →
    List ℕ} {rA : Reading A} {rB : Reading B} {rC : Reading C} (f : A → B → C → Z) → IsFormat InA sA rA → IsFormat InB sB rB → IsFormat InC sC rC →
    (a : A) (b : B) (c : C) (rest : List ℕ) → InA a → InB b → InC c → three_at f rA rB rC ((sA a ++ (sB b ++ sC c)) ++ rest) ≡ Some (f a b c, rest)
three_reads {sA = sA} {sB = sB} {sC = sC} f FA FB FC a b c rest ia ib ic =
    rw (
      append_assoc (sA a) (sB b ++ sC c) rest,
      append_assoc (sB b) (sC c) rest,
      FA.reads a (sB b ++ (sC c ++ rest)) ia,
      FB.reads b
          (sC c ++ rest) ib,
      FC.reads c rest ic,
    ) refl

pub three_spells : {A B C Z : Type 0} {InA : A → Type 0} {InB : B → Type 0} {InC : C → Type 0} {sA : A → List ℕ} {sB : B → List ℕ} {sC : C →
    List ℕ} {rA : Reading A} {rB : Reading B} {rC : Reading C} (f : A → B → C → Z) → IsFormat InA sA rA → IsFormat InB sB rB → IsFormat InC sC rC →
    (ws : List ℕ) (z : Z) (rest : List ℕ) → three_at f rA rB rC ws ≡ Some (z, rest) → Three InA InB InC (λ a b c. sA a ++ (sB b ++ sC c)) f ws z rest
three_spells {A} {B} {C} {Z} {InA} {InB} {InC} {sA} {sB} {sC} {rA} {rB} {rC} f FA FB FC ws z rest e =
    let one = bound (rA ws) (λ x. two_at (f x.0) rB rC x.1) (z, rest) e in
    let sa = FA.spells ws one.from.0 one.from.1 one.is in
    let more = two_spells (f one.from.0) FB FC one.from.1 z rest one.then in
    record {
      a = one.from.0;
      b = more.a;
      c = more.b;
      is = more.is;
      in_a = sa.0;
      in_b = more.in_a;
      in_c = more.in_b;
      spelled = sa.1 ∙ ap (λ w. sA one.from.0 ++ w) more.spelled ∙ sym (append_assoc (sA one.from.0) (sB more.a ++ sC more.b) rest);
    }

pub record Four {A B C D Z : Type 0} (InA : A → Type 0) (InB : B → Type 0) (InC : C → Type 0) (InD : D → Type 0) (words : A → B → C → D → List ℕ) (f : A → B →
    C → D → Z) (ws : List ℕ) (z : Z) (rest : List ℕ) : Type 0 where
  pub a : A
  pub b : B
  pub c : C
  pub d : D
  pub is : f a b c d ≡ z
  pub in_a : InA a
  pub in_b : InB b
  pub in_c : InC c
  pub in_d : InD d
  pub spelled : ws ≡ words a b c d ++ rest

pub four_reads : {A B C D Z : Type 0} {InA : A → Type 0} {InB : B → Type 0} {InC : C → Type 0} {InD : D → Type 0} {sA : A → List ℕ} {sB : B → List ℕ} {sC : C →
    List ℕ} {sD : D → List ℕ} {rA : Reading A} {rB : Reading B} {rC : Reading C} {rD : Reading D} (f : A → B → C → D → Z) → IsFormat InA sA rA →
    IsFormat InB sB rB → IsFormat InC sC rC → IsFormat InD sD rD → (a : A) (b : B) (c : C) (d : D) (rest : List ℕ) → InA a → InB b → InC c → InD d →
    four_at f rA rB rC rD ((sA a ++ (sB b ++ (sC c ++ sD d))) ++ rest) ≡ Some (f a b c d, rest)
four_reads {sA = sA} {sB = sB} {sC = sC} {sD = sD} f FA FB FC FD a b c d rest ia ib ic id =
    rw (
      append_assoc (sA a) (sB b ++ (sC c ++ sD d)) rest,
      append_assoc (sB b) (sC c ++ sD d) rest,
      append_assoc (sC c) (sD d) rest,
      FA.reads a
          (sB b ++ (sC c ++ (sD d ++ rest))) ia,
      FB.reads b (sC c ++ (sD d ++ rest)) ib,
      FC.reads c (sD d ++ rest) ic,
      FD.reads d rest id,
    ) refl

pub four_spells : {A B C D Z : Type 0} {InA : A → Type 0} {InB : B → Type 0} {InC : C → Type 0} {InD : D → Type 0} {sA : A → List ℕ} {sB : B →
    List ℕ} {sC : C → List ℕ} {sD : D → List ℕ} {rA : Reading A} {rB : Reading B} {rC : Reading C} {rD : Reading D} (f : A → B → C → D → Z) →
    IsFormat InA sA rA → IsFormat InB sB rB → IsFormat InC sC rC → IsFormat InD sD rD → (ws : List ℕ) (z : Z) (rest : List ℕ) →
    four_at f rA rB rC rD ws ≡ Some (z, rest) → Four InA InB InC InD (λ a b c d. sA a ++ (sB b ++ (sC c ++ sD d))) f ws z rest
four_spells {A} {B} {C} {D} {Z} {InA} {InB} {InC} {InD} {sA} {sB} {sC} {sD} {rA} {rB} {rC} {rD} f FA FB FC FD ws z rest e =
    let one = bound (rA ws) (λ x. three_at (f x.0) rB rC rD x.1) (z, rest) e in
    let sa = FA.spells ws one.from.0 one.from.1 one.is in
    let more = three_spells (f one.from.0) FB FC FD one.from.1 z rest one.then in
    record {
      a = one.from.0;
      b = more.a;
      c = more.b;
      d = more.c;
      is = more.is;
      in_a = sa.0;
      in_b = more.in_a;
      in_c = more.in_b;
      in_d = more.in_c;
      spelled = sa.1 ∙ ap (λ w. sA one.from.0 ++ w) more.spelled ∙ sym (append_assoc (sA one.from.0) (sB more.a ++ (sC more.b ++ sD more.c)) rest);
    }

-- ---- lists behind their counts

each_reads : {A : Type 0} {In : A → Type 0} {spell : A → List ℕ} {read : Reading A} → IsFormat In spell read → (xs earlier : List A) (rest : List ℕ) →
    All In xs → each_at read (length xs) earlier (flat_map spell xs ++ rest) ≡ Some (earlier ++ xs, rest)
each_reads F [] earlier rest h = ap (λ l. Some (l, rest)) (sym (append-nil earlier))
each_reads {A} {In} {spell} {read} F (x ∷ xs) earlier rest h =
    rw (append_assoc (spell x) (flat_map spell xs) rest, F.reads x (flat_map spell xs ++ rest) (All-head In x xs h))
    (each_reads F xs (earlier ++ x ∷ []) rest (All-tail In x xs h) ∙ ap (λ (l : List A). Some (l, rest)) (append_assoc earlier (x ∷ []) xs))

pub record Each {A : Type 0} (In : A → Type 0) (spell : A → List ℕ) (n : ℕ) (earlier : List A) (ws : List ℕ) (all : List A) (rest : List ℕ) : Type 0 where
  pub items : List A
  pub is : earlier ++ items ≡ all
  pub count : length items ≡ n
  pub within : All In items
  pub spelled : ws ≡ flat_map spell items ++ rest

each_spells : {A : Type 0} {In : A → Type 0} {spell : A → List ℕ} {read : Reading A} → IsFormat In spell read →
    (n : ℕ) (earlier : List A) (ws : List ℕ) (all : List A) (rest : List ℕ) → each_at read n earlier ws ≡ Some (all, rest) → Each In spell n earlier ws all rest
each_spells {A} {In} F zero earlier ws all rest e = record {
  items = [];
  is = append-nil earlier ∙ first_same earlier all ws rest e;
  count = refl;
  within = All-nil In;
  spelled = rest_same earlier all ws rest e;
}
each_spells {A} {In} {spell} {read} F (suc n) earlier ws all rest e =
    let one = bound (read ws) (λ x. each_at read n (earlier ++ x.0 ∷ []) x.1) (all, rest) e in
    let s = F.spells ws one.from.0 one.from.1 one.is in
    let more = each_spells F n (earlier ++ one.from.0 ∷ []) one.from.1 all rest one.then in
    record {
      items = one.from.0 ∷ more.items;
      is = sym (append_assoc earlier (one.from.0 ∷ []) more.items) ∙ more.is;
      count = ap suc more.count;
      within = All-cons In one.from.0 more.items s.0 more.within;
      spelled = s.1 ∙ ap (λ w. spell one.from.0 ++ w) more.spelled ∙ sym (append_assoc (spell one.from.0) (flat_map spell more.items) rest);
    }

-- so many items
pub record EachFrom {A : Type 0} (In : A → Type 0) (spell : A → List ℕ) (n : ℕ) (ws : List ℕ) (all : List A) (rest : List ℕ) : Type 0 where
  pub count : length all ≡ n
  pub within : All In all
  pub spelled : ws ≡ flat_map spell all ++ rest

pub each_from : {A : Type 0} {In : A → Type 0} {spell : A → List ℕ} {read : Reading A} → IsFormat In spell read →
    (n : ℕ) (ws : List ℕ) (all : List A) (rest : List ℕ) → each_at read n [] ws ≡ Some (all, rest) → EachFrom In spell n ws all rest
each_from {A} {In} {spell} F n ws all rest e =
    let h = each_spells F n [] ws all rest e in
    record {
      count = ap length (sym h.is) ∙ h.count;
      within = subst (λ (l : List A). All In l) h.is h.within;
      spelled = h.spelled ∙ ap (λ (l : List A). flat_map spell l ++ rest) h.is;
    }

pub each_to : {A : Type 0} {In : A → Type 0} {spell : A → List ℕ} {read : Reading A} → IsFormat In spell read → (xs : List A) (rest : List ℕ) → All In xs →
    each_at read (length xs) [] (flat_map spell xs ++ rest) ≡ Some (xs, rest)
each_to F xs rest h = each_reads F xs [] rest h

pub counted_format : {A : Type 0} {InN : ℕ → Type 0} {In : A → Type 0} {spell : A → List ℕ} {count : Reading ℕ} {read : Reading A} →
    IsFormat InN one_word count → IsFormat In spell read → IsFormat (λ xs. InN (length xs) × All In xs) (counted spell) (counted_at count read)
counted_format {A} {InN} {In} {spell} {count} {read} FN F = record {
  reads = λ xs rest h. rw (FN.reads (length xs) (flat_map spell xs ++ rest) h.0) (each_to F xs rest h.1);
  spells = λ ws xs rest e.
      let n = bound (count ws) (λ x. each_at read x.0 [] x.1) (xs, rest) e in
      let s = FN.spells ws n.from.0 n.from.1 n.is in
      let h = each_from F n.from.0 n.from.1 xs rest n.then in
      ((subst InN (sym h.count) s.0, h.within), s.1 ∙ ap (λ w. n.from.0 ∷ w) h.spelled ∙ ap (λ (k : ℕ). k ∷ (flat_map spell xs ++ rest)) (sym h.count));
}

-- ---- kinds

pub record Kind {Z : Type 0} (by : ℕ → Reading Z) (ws : List ℕ) (z : Z) (rest : List ℕ) : Type 0 where
  pub kind : ℕ
  pub more : List ℕ
  pub is : ws ≡ kind ∷ more
  pub then : by kind more ≡ Some (z, rest)

pub kind_from : {Z : Type 0} (by : ℕ → Reading Z) (ws : List ℕ) (z : Z) (rest : List ℕ) → (word_at ws >>= λ kind. by kind.0 kind.1) ≡ Some (z, rest) →
    Kind by ws z rest
kind_from by ws z rest e =
    let k = bound (word_at ws) (λ kind. by kind.0 kind.1) (z, rest) e in
    record { kind = k.from.0; more = k.from.1; is = word_from ws k.from.0 k.from.1 k.is; then = k.then }

decided : {Z G : Type 0} (test : Bool) (a b : Option Z) (z : Z) → (test ≡ true → a ≡ Some z → G) → (b ≡ Some z → G) → cond test a b ≡ Some z → G
decided true a b z yes_ no_ e = yes_ refl e
decided false a b z yes_ no_ e = no_ e

-- it is the kind's number, or another one
pub by_kind : {Z G : Type 0} (kind n : ℕ) (a b : Option Z) (z : Z) → (kind ≡ n → a ≡ Some z → G) → (b ≡ Some z → G) → cond (kind == n) a b ≡ Some z → G
by_kind kind n a b z is_kind other = decided (kind == n) a b z (λ t e. is_kind (eqb-true kind n t) e) other

pub nothing_read : {Z G : Type 0} (z : Z) → None ≡ Some z → G
nothing_read z e = cc

pub kinded : {Z : Type 0} (P : Z → Type 0) (words : Z → List ℕ) (n : ℕ) (ws : List ℕ) (kind : ℕ) (more : List ℕ) (z : Z) (rest : List ℕ) (y : Z)
    (tail : List ℕ) → ws ≡ kind ∷ more → kind ≡ n → y ≡ z → P y → more ≡ tail ++ rest → words y ≡ n ∷ tail → P z × (ws ≡ words z ++ rest)
kinded {Z} P words n ws kind more z rest y tail front is same holds spelled begins =
    let w : ws ≡ words y ++ rest = front ∙ rw (is, spelled, begins) refl in
    subst (λ (x : Z). P x × (ws ≡ words x ++ rest)) same (holds, w)
