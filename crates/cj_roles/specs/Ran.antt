-- A run whose roles have ended.
use Rattle.std.specs.Prelude.{ℕ, ◌+◌, List, map}
use Rattle.cj_ir.specs.declared.script.Input.{Input}
use Rattle.cj_notes.specs.declared.notes.WorkNote.{WorkNote}
use Rattle.cj_records.specs.declared.store.Store.{Store}
use Rattle.cj_records.specs.Notes.{published_by}
use Rattle.cj_records.specs.Versions.{IsWholeStore}
use Rattle.cj_roles.specs.declared.joining.Answers.{Answers}
use Rattle.cj_roles.specs.Roles.{role_of, roles_in}
use Rattle.cj_roles.specs.Joined.{HasJoined}

-- the seats of all its roles are joined into those of the store, and the answers are theirs
pub record RolesRan (input : Input) (callers workers : ℕ) (warm : List WorkNote) (answers : Answers) (s : Store) : Type 0 where
  pub store : IsWholeStore (callers + workers) 1048576 input.checked s
  pub joined : HasJoined input.checked 1048576 input.script.setups warm (map (role_of input.script.calls (published_by warm)) (roles_in callers workers))
      answers s
