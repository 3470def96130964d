use Rattle.std.proofs.Common.{◌≡◌, [], ◌∙◌, IfOk, Result, Ok, Err, string_bytes}
use Rattle.tcltext.specs.chars.Runs.{Text}
use Rattle.port_rewriting.specs.Accounts.{Accounts, AreUnsaid, written}
use Rattle.port_rewriting.specs.AccountViews.{pieces_view}
use Rattle.port_rewriting.specs.declared.translation.Translation.{Translation}
use Rattle.port_rewriting.proofs.Accounting.{unsaid}
use Rattle.port_rewriting.proofs.translation.translate.Goals as goal

unsaid_of : {E : Type 0} (r : Result Translation E) (text : Text) → IfOk r (λ t. Accounts text (pieces_view t.pieces.items) [])
    → IfOk r (λ t. string_bytes t.text ≡ written (pieces_view t.pieces.items))
    → IfOk r (λ t. AreUnsaid (pieces_view t.pieces.items) → string_bytes t.text ≡ text)
unsaid_of (Ok t) text h e = λ u. e ∙ unsaid text (pieces_view t.pieces.items) h u
unsaid_of (Err fault) text h e = tt

pub returns-in-Ok-clause-unsaid : goal.returns-in-Ok-clause-unsaid
returns-in-Ok-clause-unsaid c = unsaid_of c.translated.result c.args.text.now c.translated.ensures.accounts c.translated.ensures.joined
