-- What is answered with a report (module(1), ENVIRONMENT and DIAGNOSTICS).
use Rattle.std.specs.Prelude.{◌≡◌, Bool, true, false, List, string_bytes, vec_items, if◌then◌else◌, Option, Some, None}
use Rattle.message.specs.Messages.{Text}
use Rattle.terminal.specs.text.Bytes.{line_count, shown_bytes, without_colours}
use Rattle.module_words.specs.declared.protocol.asker.Asker.{Asker}
use Rattle.module_words.specs.declared.protocol.place.Place.{Place}
use Rattle.module_words.specs.declared.protocol.place.Place.TheVariants as places
use Rattle.module_words.specs.declared.protocol.place.ReportKind.{ReportKind}
use Rattle.module_words.specs.declared.protocol.place.ReportKind.TheVariants.{Lines}
use Rattle.module_words.specs.declared.protocol.place.Streams.{Streams}
use Rattle.module_words.specs.declared.subcommands.table.Subcommand.{Subcommand}
use Rattle.module_words.specs.protocol.Kinds.{report_kind}
use Rattle.module_words.specs.protocol.Paging.{Values, has_own_pager, is_paged}
use Rattle.module_words.specs.protocol.Places.{place_of}
use Rattle.module_subcommands.specs.declared.asking.Asking.{Asking}
use Rattle.module_subcommands.specs.declared.reply.Reply.{Reply}
use Rattle.module_subcommands.specs.declared.reply.Reply.TheVariants as replies
use Rattle.module_subcommands.specs.declared.reporting.Destination.{Destination}

-- where a report of a kind goes; to standard error, if there is none
abbrev pub destination_for : Asker → Streams → Option ReportKind → Destination
destination_for asker streams (Some kind) = record { kind = kind; place = place_of asker kind streams }
destination_for asker streams None = record { kind = Lines; place = places.Error }

-- Where the report of a command goes.
abbrev pub destination_of : Asking → Subcommand → List Text → Destination
destination_of asking subcommand words =
    destination_for asking.asker asking.site.streams (report_kind subcommand words)

-- a report as it is, with why it is empty
abbrev pub IsReport : Text → Place → Text → Reply → Type 0
IsReport aside place bytes (replies.Reported r) =
    (string_bytes r.aside ≡ aside) × (r.place ≡ place) × (vec_items r.bytes ≡ bytes)
IsReport aside place bytes other = ⊥

-- what is shown at a place: a terminal isn't steered
abbrev pub shown_at : Place → Text → Text
shown_at (places.Terminal screen) bytes = shown_bytes bytes
shown_at place bytes = bytes

-- A report of lines.
abbrev pub IsLinesReply : Text → Place → Text → Reply → Type 0
IsLinesReply aside place bytes reply = IsReport aside place (shown_at place bytes) reply

-- what a pager shows: a user's own may not show colours
abbrev pub pager_text : Values → Text → Text
pager_text value text = if has_own_pager value then without_colours text else text

abbrev pub IsPaged : Text → Reply → Type 0
IsPaged text (replies.Paged shown) = string_bytes shown ≡ text
IsPaged text other = ⊥

-- A report of names: a pager shows it, if it is long, and else it goes to its place.
abbrev pub NamesReplyIf : Bool → Values → Place → Text → Text → Reply → Type 0
NamesReplyIf true value place aside text reply = IsPaged (pager_text value text) reply
NamesReplyIf false value place aside text reply = IsReport aside place text reply

abbrev pub IsNamesReply : Values → ReportKind → Place → Text → Text → Reply → Type 0
IsNamesReply value kind place aside text reply =
    NamesReplyIf (is_paged value kind place (line_count text)) value place aside text reply
