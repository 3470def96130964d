-- A cache of scripts and of expressions, and what makes it right: each text with its own tree. Own.
use Rattle.std.specs.Prelude.{string_bytes}
use Rattle.std.specs.List.{All}
use Rattle.tcltext.specs.chars.Runs.{Text}
use Rattle.tcltext.specs.script.Tree.{Commands}
use Rattle.tcltext.specs.script.Text.{script_of}
use Rattle.tcltext.specs.script.Owned as script
use Rattle.tcltext.specs.declared.script.owned.OwnedScript.{OwnedScript}
use Rattle.tcltext.specs.expr.Tree.{Expr}
use Rattle.tcltext.specs.expr.Operands.{Operand}
use Rattle.tcltext.specs.expr.Text.{expr_of}
use Rattle.tcltext.specs.expr.Owned as expression
use Rattle.tcltext.specs.declared.expr.owned.OwnedExpr.{OwnedExpr}
use Rattle.tcleval.specs.cache.Trees.{Trees, AreLimited, BeginsWith, IsTreeOfText, map_trees}

-- the scripts and expressions that were parsed, with the trees of the program
pub record Kept : Type 0 where
  pub scripts : Trees OwnedScript
  pub expressions : Trees OwnedExpr

-- the scripts, and the expressions, with what their trees stand for in the grammar
abbrev pub scripts_of : Kept → Trees Commands
scripts_of k = map_trees script.owned_view k.scripts

abbrev pub expressions_of : Kept → Trees (Expr Operand)
expressions_of k = map_trees expression.owned_view k.expressions

-- the tree was parsed from this text, and stands for the tree that the grammar has for it
abbrev pub IsCachedScript : Text × OwnedScript → Type 0
IsCachedScript = IsTreeOfText (λ tree. string_bytes tree.text) script.owned_view script_of

abbrev pub IsCachedExpression : Text × OwnedExpr → Type 0
IsCachedExpression = IsTreeOfText (λ tree. string_bytes tree.text) expression.owned_view expr_of

-- the cache is right: distinct texts within the limits, each with its own tree
pub record IsValidKept (k : Kept) : Type 0 where
  pub scripts_limited : AreLimited k.scripts
  pub expressions_limited : AreLimited k.expressions
  pub scripts_own : All IsCachedScript k.scripts
  pub expressions_own : All IsCachedExpression k.expressions

-- the second cache has all of the first, in the same order, and perhaps more after it
abbrev pub BeginWith : Kept → Kept → Type 0
BeginWith old new = BeginsWith old.scripts new.scripts × BeginsWith old.expressions new.expressions
