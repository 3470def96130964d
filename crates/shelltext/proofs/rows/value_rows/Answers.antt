use Rattle.std.proofs.Common.{[], ◌∷◌, codes, refl, arith}
use Rattle.shelltext.specs.Reading.{literal, special}
use Rattle.shelltext.proofs.rows.value_rows.Goals as goal

pub returns-clause-sh : goal.returns-clause-sh
returns-clause-sh c = (
  codes "FOO='on'; export FOO;\n",
  [],
  refl,
  (codes "'on'", record { parts = literal (codes "on") ∷ []; some = omega arith; proper = (refl, tt); spelled = refl; meant = refl }, refl),
  refl,
  refl,
)

pub returns-clause-sh_empty : goal.returns-clause-sh_empty
returns-clause-sh_empty c = (
  codes "N=''; export N;\n",
  [],
  refl,
  (codes "''", record { parts = literal [] ∷ []; some = omega arith; proper = (refl, tt); spelled = refl; meant = refl }, refl),
  refl,
  refl,
)

pub returns-clause-sh_quote : goal.returns-clause-sh_quote
returns-clause-sh_quote c = (
  codes "Q='it'\\''s!'; export Q;\n",
  [],
  refl,
  (codes "'it'\\''s!'", record { parts = literal (codes "it") ∷ special 39 ∷ literal (codes "s!") ∷ []; some = omega arith; proper = (refl, (refl, (refl, tt))); spelled = refl; meant = refl }, refl),
  refl,
  refl,
)

pub returns-clause-csh : goal.returns-clause-csh
returns-clause-csh c = (
  codes "setenv N 'a'\\!'b\\';\n",
  [],
  refl,
  (codes "'a'\\!'b\\'", record { parts = literal (codes "a") ∷ special 33 ∷ literal (codes "b\\") ∷ []; some = omega arith; proper = (refl, (refl, (refl, tt))); spelled = refl; meant = refl }, refl),
  refl,
  refl,
)

pub returns-clause-csh_quote : goal.returns-clause-csh_quote
returns-clause-csh_quote c = (
  codes "setenv Q 'it'\\''s';\n",
  [],
  refl,
  (codes "'it'\\''s'", record { parts = literal (codes "it") ∷ special 39 ∷ literal (codes "s") ∷ []; some = omega arith; proper = (refl, (refl, (refl, tt))); spelled = refl; meant = refl }, refl),
  refl,
  refl,
)

pub returns-clause-fish : goal.returns-clause-fish
returns-clause-fish c = (
  codes "set -xg N 'a!b\\\\';\n",
  [],
  refl,
  (codes "'a!b\\\\'", record { parts = literal (codes "a!b") ∷ special 92 ∷ []; some = omega arith; proper = (refl, (refl, tt)); spelled = refl; meant = refl }, refl),
  refl,
  refl,
)

pub returns-clause-fish_quote : goal.returns-clause-fish_quote
returns-clause-fish_quote c = (
  codes "set -xg Q 'it\\'s';\n",
  [],
  refl,
  (codes "'it\\'s'", record { parts = literal (codes "it") ∷ special 39 ∷ literal (codes "s") ∷ []; some = omega arith; proper = (refl, (refl, (refl, tt))); spelled = refl; meant = refl }, refl),
  refl,
  refl,
)
