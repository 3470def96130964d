use Rattle.std.proofs.Common.{refl, rules}
use Rattle.modulefile_run.proofs.batch.path_change.Goals as goal
use Rattle.modulefile_run.proofs.batch.path_change.Goals.{in-Load-default, in-Unload-Front, in-Unload-Back}

pub returns-clause-edit : goal.returns-clause-edit
returns-clause-edit c = λ owner e. elim c.match-mode.branch [
  | in-Load-default w ↦ search rules
  | in-Unload-Front w ↦ rw (w.in-Unload-Front.is-0, c.in-Path.is, w.in-Unload-Front.is-1, w.edit-is, c.as_str.ensures.value, c.as_slice.ensures.value) refl
  | in-Unload-Back w ↦ rw (w.in-Unload-Back.is-0, c.in-Path.is, w.in-Unload-Back.is-1, w.edit-is, c.as_str.ensures.value, c.as_slice.ensures.value) refl
]
