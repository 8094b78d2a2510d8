-- The answer of a play, from its last world and the reports of its runs.
use Rattle.std.proofs.Common.{◌≡◌, subst, ℕ, List, [], ◌∷◌, map, length, Some}
use Rattle.std.specs.List.{AllZip}
use Rattle.cj_ir.specs.WellFormed.{IsWellFormed, Takes}
use Rattle.cj_ir.specs.declared.language.Program.{Program}
use Rattle.cj_ir.specs.declared.script.ScriptCall.{ScriptCall}
use Rattle.cj_base.specs.Run.{Begun, begun}
use Rattle.cj_calls.specs.declared.report.Look.{Look}
use Rattle.cj_calls.specs.declared.report.Report.{Report}
use Rattle.cj_calls.specs.Reports.{ReportStands, IsWhole}
use Rattle.cj_machine.specs.Versions.{Codes}
use Rattle.cj_machine.specs.VersionRuns.{version_report}
use Rattle.cj_machine.specs.CodeMaps.{SoundCodes}
use Rattle.cj_events.specs.declared.events.Event.{Event}
use Rattle.cj_world.specs.declared.played.Played.{Played}
use Rattle.cj_world.specs.declared.runs.Run as code
use Rattle.cj_world.specs.declared.world.World as whole
use Rattle.cj_world.specs.Worlds.{Run, World, codes_in, first_world, finished}
use Rattle.cj_world.specs.Plays.{AllHappen, PlaysTo, calls_of}
use Rattle.cj_world.specs.Played.{IsReadOff, IsReportOf, IsPlay}
use Rattle.cj_world.specs.Caches.{made_in}
use Rattle.cj_world.specs.Running.{run_of, world_of, Orderly, IsToldOf}
use Rattle.cj_world.proofs.Trails.{looks_never_fall}
use Rattle.cj_world.proofs.Calls.{calls_begun}

-- the law on reports
abbrev pub HasHeadlines : Type 0
HasHeadlines =
    (P : Program) (codes : Codes) (looks : List Look) (call : Begun) (r : Report) →
    IsWellFormed P → SoundCodes P codes → Takes P.functions call.function (length call.args) →
    version_report P codes looks call ≡ Some r → ReportStands P call r × IsWhole P call r

read_off_all : (P : Program) (codes : Codes) (runs : List code.Run) (reports : List Report) → AllZip (IsToldOf P codes) runs reports →
    AllZip IsReadOff (map run_of runs) reports
read_off_all P codes [] [] h = tt
read_off_all P codes [] (r ∷ reports) h = absurd h
read_off_all P codes (run ∷ runs) [] h = absurd h
read_off_all P codes (run ∷ runs) (r ∷ reports) h = (h.0.read_off, read_off_all P codes runs reports h.1)

module _ (law : HasHeadlines) (P : Program) (codes : Codes) (formed : IsWellFormed P) (sound : SoundCodes P codes) where
  told_report : (call : ScriptCall) (run : code.Run) (r : Report) → begun run.call.now ≡ begun call → IsToldOf P codes run r → IsReportOf P codes call r
  unfolding begun
  told_report call run r same told =
      let stands = law P codes r.looks (begun run.call.now) r formed sound told.takes told.report in
      record {
        run = subst (λ (c : Begun). version_report P codes r.looks c ≡ Some r) same told.report;
        headline = subst (λ (c : Begun). ReportStands P c r) same stands.0;
        whole = subst (λ (c : Begun). IsWhole P c r) same stands.1;
      }

  told_reports : (runs : List code.Run) (reports : List Report) (calls : List ScriptCall) → map (λ run. run.call) (map run_of runs) ≡ map begun calls →
      AllZip (IsToldOf P codes) runs reports → AllZip (IsReportOf P codes) calls reports
  unfolding run_of
  told_reports [] [] [] same h = tt
  told_reports [] [] (call ∷ calls) same h = absurd cc
  told_reports [] (r ∷ reports) calls same h = absurd h
  told_reports (run ∷ runs) [] calls same h = absurd h
  told_reports (run ∷ runs) (r ∷ reports) [] same h = absurd cc
  told_reports (run ∷ runs) (r ∷ reports) (call ∷ calls) same h =
      let first : begun run.call.now ≡ begun call = cc in
      let rest : map (λ (run : Run). run.call) (map run_of runs) ≡ map begun calls = cc in
      (told_report call run r first h.0, told_reports runs reports calls rest h.1)

pub answers : HasHeadlines → (P : Program) (words : ℕ) (events : List Event) (last : World) (w : whole.World) (played : Played) → IsWellFormed P →
    w.cache.checked.now ≡ P → AllHappen P words events (first_world P) last → world_of w ≡ finished P (length last.runs) last → Orderly w →
    AllZip (IsToldOf P (codes_in (made_in w.cache))) w.runs.items played.reports → played.compiled ≡ w.compiled → played.skips ≡ w.skips →
    IsPlay P words events played
unfolding world_of made_in
answers law P words events last w played formed checked happened ended orderly told compiled skips =
    let codes : Codes = codes_in (made_in w.cache) in
    let plays : PlaysTo P words events (world_of w) = record { last = last; happened = happened; ended = ended } in
    let sound : SoundCodes P codes = subst (λ (Q : Program). SoundCodes Q codes) checked orderly.ready.sound in
    record {
      world = world_of w;
      plays = plays;
      tells = record {
        reports = read_off_all P codes w.runs.items played.reports told;
        compiled = compiled;
        skips = skips;
      };
      sound = sound;
      headline = told_reports law P codes formed sound w.runs.items played.reports (calls_of events) (calls_begun P words events (world_of w) plays) told;
      looks = looks_never_fall P words events (world_of w) plays;
    }
