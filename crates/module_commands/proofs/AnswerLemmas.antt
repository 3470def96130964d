-- What is refused is written as a refusal, whatever words were asked for.
use Rattle.std.proofs.Common.{List, IfSome, Option, Some, None, Result, Ok, Err, IfOk, ◌≡◌, Bool, ℕ, inr, refl, subst}
use Rattle.std.specs.declared.alloc.AllocError.{AllocError}
use Rattle.message.specs.Messages.{Text}
use Rattle.envvars.specs.Environment.{Environment}
use Rattle.filetree.specs.Agreement.{Files, Listings, Narrows}
use Rattle.module_collections.specs.files.Entries.{Entries}
use Rattle.module_words.specs.declared.function.fault.FunctionFault.{FunctionFault}
use Rattle.module_words.specs.function.Asked.{Asked, Command, both, one}
use Rattle.module_words.specs.function.Faults.{FunctionReason, reason_of}
use Rattle.module_commands.specs.Answers.{Answered, IsRefused, WritesAsked, WritesCommand, WritesExchange, answer_view, refused, refused_words}
use Rattle.module_commands.specs.Explanations.{AreRefusedWords, Explains, ExplainsMove, Told, explained_view, told_behind}
use Rattle.module_commands.specs.declared.answering.Answer.{Answer}
use Rattle.module_subcommands.specs.declared.asking.Asking.{Asking}
use Rattle.module_commands.specs.declared.explaining.Explained.{Explained}
use Rattle.module_subcommands.specs.declared.refusal.Refusal.{Refusal}
use Rattle.module_subcommands.specs.declared.refusal.Refusal.TheVariants as refusals
use Rattle.module_commands.proofs.RefusalLemmas.{refused_narrowed}

pub move_explained : (before now : Files → Listings → Type 0) → Narrows before now → (asking : Asking) (e : Environment) (command : Command) (words : List Text) (r : Result Explained AllocError)
    → AreRefusedWords before asking e command words → IfOk r (λ x. Explains now asking e words (explained_view x)) → IfOk r (λ x. ExplainsMove now asking e command (explained_view x))
move_explained before now narrows asking e command words (Ok x) are explains =
    inr (words, refused_narrowed before now narrows asking.shell e command _ words are, explains)
move_explained before now narrows asking e command words (Err fault) are explains = explains

pub is_refused : (asking : Asking) (refusal : Refusal) (more : Told) (r : Result Answer AllocError)
    → IfOk r (λ a. answer_view a ≡ refused asking refusal more) → IfOk r (λ a. IsRefused asking (answer_view a))
is_refused asking refusal more (Ok a) h = (refusal, more, h)
is_refused asking refusal more (Err fault) h = h

pub exchange_refused : (agrees : Files → Listings → Type 0) (asking : Asking) (unloads loads : Command) (r : Result Answer AllocError)
    → IfOk r (λ a. IsRefused asking (answer_view a)) → IfOk r (λ a. WritesExchange agrees asking unloads loads (answer_view a))
exchange_refused agrees asking unloads loads (Ok a) h = inr h
exchange_refused agrees asking unloads loads (Err fault) h = h

abbrev IsReason : FunctionReason → Result Asked FunctionReason → Type 0
IsReason reason (Ok asked) = reason ≡ reason
IsReason reason (Err other) = other ≡ reason

abbrev refusing : FunctionReason → Result Asked FunctionReason
refusing reason = Err reason

is_reason : (o : Option FunctionReason) (reason : FunctionReason) → IfSome o (λ r. refusing reason ≡ refusing r) → IfSome o (λ other. other ≡ reason)
is_reason None reason h = h
is_reason (Some other) reason h = subst (IsReason reason) h refl

module _ (agrees readable : Files → Listings → Type 0) (has_failed : Text → Bool) (before now : ℕ) (files_before files_now : Entries → Type 0) (usage version : Text) (asking : Asking) where
  pub command_refused : (command : Command) (r : Result Answer AllocError) → IfOk r (λ a. IsRefused asking (answer_view a))
      → IfOk r (λ a. WritesCommand agrees readable has_failed before now files_before files_now usage version asking command (answer_view a))
  command_refused command (Ok a) h = inr h
  command_refused command (Err fault) h = h

  asked_refused : (outcome : Result Asked FunctionReason) (fault : FunctionFault) (a : Answered) → IfSome (reason_of fault) (λ r. outcome ≡ Err r) → a ≡ refused_words asking fault
      → WritesAsked agrees readable has_failed before now files_before files_now usage version asking outcome a
  asked_refused (Ok (one command)) fault a h is = inr (refusals.Function fault, told_behind asking (refusals.Function fault), is)
  asked_refused (Ok (both unloads loads)) fault a h is = inr (refusals.Function fault, told_behind asking (refusals.Function fault), is)
  asked_refused (Err reason) fault a h is = (fault, is_reason (reason_of fault) reason h, is)

  pub words_refused : (outcome : Result Asked FunctionReason) (fault : FunctionFault) (r : Result Answer AllocError) → IfSome (reason_of fault) (λ r. outcome ≡ Err r)
      → IfOk r (λ a. answer_view a ≡ refused_words asking fault) → IfOk r (λ a. WritesAsked agrees readable has_failed before now files_before files_now usage version asking outcome (answer_view a))
  words_refused outcome fault (Ok a) h is = asked_refused outcome fault (answer_view a) h is
  words_refused outcome fault (Err e) h is = is
