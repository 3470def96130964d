-- The way out, which is named behind a refusal.
use Rattle.std.proofs.Common.{◌≡◌, inr, Bool, true, false, List}
use Rattle.std.proofs.lemmas.Bool.{false≢true}
use Rattle.message.specs.Messages.{Text}
use Rattle.filetree.specs.Agreement.{Files, Listings}
use Rattle.module_restore.specs.forgetting.Answers.{IsWayOut}
use Rattle.module_restore.specs.forgetting.Said.{way_out_line}
use Rattle.module_commands.specs.Forgettings.{IsWayOutOf}
use Rattle.module_subcommands.specs.Replies.{own_line}
use Rattle.module_subcommands.specs.declared.asking.Asking.{Asking}

pub named : (agrees : Files → Listings → Type 0) (asking : Asking) (by_gone : Bool) (names : List Text) (lines : Text) → by_gone ≡ true → IsWayOut agrees asking.shell asking.env names
    → lines ≡ own_line asking.site.streams.error (way_out_line names) → IsWayOutOf agrees asking by_gone lines
named agrees asking true names lines h way is = inr (names, way, is)
named agrees asking false names lines h way is = absurd (false≢true h)
