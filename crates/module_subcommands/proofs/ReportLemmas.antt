-- Reports of equal texts.
use Rattle.std.proofs.Common.{◌≡◌, subst}
use Rattle.message.specs.Messages.{Text}
use Rattle.module_words.specs.declared.protocol.place.Place.{Place}
use Rattle.module_subcommands.specs.Reports.{IsLinesReply, IsReport}
use Rattle.module_subcommands.specs.declared.reply.Reply.{Reply}

-- a report as it is
pub report_same : (aside aside' : Text) (place : Place) (bytes bytes' : Text) (reply : Reply) → aside ≡ aside' → bytes ≡ bytes' → IsReport aside place bytes reply → IsReport aside' place bytes' reply
report_same aside aside' place bytes bytes' reply p q h =
    subst (λ (a : Text). IsReport a place bytes' reply) p (subst (λ (b : Text). IsReport aside place b reply) q h)

-- a report of lines
pub lines_same : (aside aside' : Text) (place : Place) (bytes bytes' : Text) (reply : Reply) → aside ≡ aside' → bytes ≡ bytes' → IsLinesReply aside place bytes reply
    → IsLinesReply aside' place bytes' reply
lines_same aside aside' place bytes bytes' reply p q h =
    subst (λ (a : Text). IsLinesReply a place bytes' reply) p (subst (λ (b : Text). IsLinesReply aside place b reply) q h)
