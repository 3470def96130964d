use Rattle.std.proofs.Common.{◌≡◌, [], List, map, option_map, reverse, drop, Ok, string_bytes, ◌+◌, ◌-◌, ◌*◌}
use Rattle.tcltext.specs.chars.Runs.{Text}
use Rattle.tcltext.specs.script.Tree.{commands_of, words_of}
use Rattle.tcltext.specs.script.View.{script_view, command_view, word_view}
use Rattle.tcltext.specs.declared.script.tree.Script.{out-Script}
use Rattle.tcltext.specs.declared.script.piece.ByteRange.{ByteRange}
use Rattle.tclrules.specs.Derivation.{Runs}
use Rattle.tclrules.specs.Simulates.{Simulates, point}
use Rattle.tclrules.specs.Variables.{State}
use Rattle.tclrules.specs.Plans as plans
use Rattle.tclrules.specs.Words as pieces
use Rattle.tclrules.specs.Rules as rules
use Rattle.tclrules.specs.Plans.{Next, on_normal}
use Rattle.tclrules.specs.Rules.{rule}
use Rattle.tclforms.specs.Views.{pair_texts}
use Rattle.tclforms.specs.substitution.Machine.{range_text, control_plan, stack_continuation, control_weight, frames_weight}
use Rattle.tclcommands.specs.Completions.{EvaluatesToText}
use Rattle.tcleval.specs.Continues.{bounds_of}
use Rattle.tcleval.specs.LoopBodies.{HasItsTree}
use Rattle.tcleval.specs.OnlyGrows.{OnlyGrows}
use Rattle.tcleval.proofs.evaluator.Evaluator.+evaluate.Given as goal

abbrev pub decreases-bracket : goal.decreases-bracket
decreases-bracket g l = 16 * l.bounds.remaining

abbrev pub decreases-script : goal.decreases-script
decreases-script g l = 16 * l.bounds.remaining

abbrev pub decreases-repeated_script : goal.decreases-repeated_script
decreases-repeated_script g l = 16 * l.bounds.remaining

abbrev pub decreases-value : goal.decreases-value
decreases-value g l = 16 * l.bounds.remaining + 1

abbrev pub decreases-express : goal.decreases-express
decreases-express g l = 16 * l.bounds.remaining + 3

abbrev pub decreases-expression_value : goal.decreases-expression_value
decreases-expression_value g l = 16 * l.bounds.remaining + 2

abbrev pub decreases-holds : goal.decreases-holds
decreases-holds g l = 16 * l.bounds.remaining + 3

abbrev pub decreases-decide : goal.decreases-decide
decreases-decide g l = 16 * l.bounds.remaining + 4

abbrev pub decreases-turn : goal.decreases-turn
decreases-turn g l = 16 * l.bounds.remaining + 3

abbrev pub decreases-guarded_turn : goal.decreases-guarded_turn
decreases-guarded_turn g l = 16 * l.bounds.remaining + 4

abbrev pub decreases-while_turns : goal.decreases-while_turns
decreases-while_turns g l = 16 * l.bounds.remaining + 5

abbrev pub decreases-for_turns : goal.decreases-for_turns
decreases-for_turns g l = 16 * l.bounds.remaining + 5

abbrev pub decreases-for_loop : goal.decreases-for_loop
decreases-for_loop g l = 16 * l.bounds.remaining + 6

abbrev pub decreases-otherwise : goal.decreases-otherwise
decreases-otherwise g l = 16 * l.bounds.remaining + 1

abbrev pub decreases-branches : goal.decreases-branches
decreases-branches g l = 16 * l.bounds.remaining + 5

abbrev pub decreases-catch : goal.decreases-catch
decreases-catch g l = 16 * l.bounds.remaining + 1

abbrev pub decreases-express_words : goal.decreases-express_words
decreases-express_words g l = 16 * l.bounds.remaining + 4

abbrev pub decreases-form : goal.decreases-form
decreases-form g l = 16 * l.bounds.remaining + 7

abbrev pub decreases-called : goal.decreases-called
decreases-called g l = 16 * l.bounds.remaining + 9

abbrev pub decreases-core_command : goal.decreases-core_command
decreases-core_command g l = 16 * l.bounds.remaining + 8

abbrev pub decreases-other_command : goal.decreases-other_command
decreases-other_command g l = 16 * l.bounds.remaining + 2

abbrev pub decreases-call : goal.decreases-call
decreases-call g l = 16 * l.bounds.remaining + 1

abbrev pub decreases-foreach : goal.decreases-foreach
decreases-foreach g l = 16 * l.bounds.remaining + 5

abbrev pub decreases-foreach_turns : goal.decreases-foreach_turns
decreases-foreach_turns g l = 16 * l.bounds.remaining + 4

abbrev pub decreases-words : goal.decreases-words
decreases-words g l = 16 * l.bounds.remaining + 4

abbrev pub decreases-word : goal.decreases-word
decreases-word g l = 16 * l.bounds.remaining + 3

abbrev pub decreases-joined_parts : goal.decreases-joined_parts
decreases-joined_parts g l = 16 * l.bounds.remaining + 2

abbrev pub decreases-command : goal.decreases-command
decreases-command g l = 16 * l.bounds.remaining + 10

abbrev pub decreases-commands : goal.decreases-commands
decreases-commands g l = 16 * l.bounds.remaining + 11

abbrev pub invariant-branches-loop-condition : goal.invariant-branches-loop-condition
invariant-branches-loop-condition g l =
    let o = g.H.Host.oracle in
    let t = g.H.Host.trace in
    let b = bounds_of l.bounds in
    let other = option_map (λ t. t.now) l.other in
    record {
      evaluates_to : (k : Next) → Simulates l.bounds.limits.commands (rule l.bounds.limits.value_bytes)
          (rules.branches b (pair_texts l.branches) other l.fn.self.variables k)
          (point (o l.fn.host) (t l.fn.host) l.fn.self.used l.fn.self.scripts)
          (rules.branches b (pair_texts (drop l.condition-index l.branches)) other l.self.variables k)
          (point (o l.host) (t l.host) l.self.used l.self.scripts);
      only_grows : OnlyGrows l.fn.self l.self;
    }

abbrev pub invariant-commands-loop-command : goal.invariant-commands-loop-command
invariant-commands-loop-command g l =
    let o = g.H.Host.oracle in
    let t = g.H.Host.trace in
    let b = bounds_of l.bounds in
    let view = map (command_view (range_text l.script.source.now)) in
    record {
      evaluates_to : EvaluatesToText l.result_use l.bounds.limits.value_bytes (Ok l.last)
          (λ u. Simulates l.bounds.limits.commands (rule l.bounds.limits.value_bytes)
          (rules.commands b (script_view (range_text l.script.source.now) l.script.tree.now) [] l.fn.self.variables)
          (point (o l.fn.host) (t l.fn.host) l.fn.self.used l.fn.self.scripts)
          (rules.commands b (commands_of (view (drop l.command-index
          (out-Script ByteRange l.script.tree.now).commands.items))) u l.self.variables)
          (point (o l.host) (t l.host) l.self.used l.self.scripts));
      only_grows : OnlyGrows l.fn.self l.self;
    }

abbrev pub invariant-for_turns-loop-next : goal.invariant-for_turns-loop-next
invariant-for_turns-loop-next g l =
    let o = g.H.Host.oracle in
    let t = g.H.Host.trace in
    record {
      evaluates_to : (k : Next) → Simulates l.bounds.limits.commands (rule l.bounds.limits.value_bytes)
          (Runs (plans.For l.bounds.remaining l.parts.condition.now l.parts.next.now l.parts.body.now
          l.fn.self.variables) (on_normal k)) (point (o l.fn.host) (t l.fn.host) l.fn.self.used l.fn.self.scripts)
          (Runs (plans.For l.bounds.remaining l.parts.condition.now l.parts.next.now l.parts.body.now l.self.variables)
          (on_normal k)) (point (o l.host) (t l.host) l.self.used l.self.scripts);
      body : (l.body.text.now ≡ l.parts.body.now) × HasItsTree l.body;
      next : (l.next.text.now ≡ l.parts.next.now) × HasItsTree l.next;
      only_grows : OnlyGrows l.fn.self l.self;
    }

abbrev pub decreases-for_turns-loop-next : goal.decreases-for_turns-loop-next
decreases-for_turns-loop-next g l = l.bounds.limits.commands - l.self.used

abbrev pub invariant-while_turns-loop-body : goal.invariant-while_turns-loop-body
invariant-while_turns-loop-body g l =
    let o = g.H.Host.oracle in
    let t = g.H.Host.trace in
    record {
      evaluates_to : (k : Next) → Simulates l.bounds.limits.commands (rule l.bounds.limits.value_bytes)
          (Runs (plans.While l.bounds.remaining l.parts.condition.now l.parts.body.now l.fn.self.variables)
          (on_normal k)) (point (o l.fn.host) (t l.fn.host) l.fn.self.used l.fn.self.scripts)
          (Runs (plans.While l.bounds.remaining l.parts.condition.now l.parts.body.now l.self.variables) (on_normal k))
          (point (o l.host) (t l.host) l.self.used l.self.scripts);
      body : (l.body.text.now ≡ l.parts.body.now) × HasItsTree l.body;
      only_grows : OnlyGrows l.fn.self l.self;
    }

abbrev pub decreases-while_turns-loop-body : goal.decreases-while_turns-loop-body
decreases-while_turns-loop-body g l = l.bounds.limits.commands - l.self.used

abbrev pub invariant-value-loop-stack : goal.invariant-value-loop-stack
invariant-value-loop-stack g l =
    let o = g.H.Host.oracle in
    let t = g.H.Host.trace in
    let b = bounds_of l.bounds in
    record {
      evaluates_to : (k : Next) → Simulates l.bounds.limits.commands (rule l.bounds.limits.value_bytes)
          (control_plan l.source b l.fn.start l.fn.self.variables k) (point (o l.fn.host) (t l.fn.host) l.fn.self.used l.fn.self.scripts)
          (control_plan l.source b l.control l.self.variables (stack_continuation l.source b (reverse l.stack.items) k))
          (point (o l.host) (t l.host) l.self.used l.self.scripts);
      only_grows : OnlyGrows l.fn.self l.self;
    }

abbrev pub decreases-value-loop-stack : goal.decreases-value-loop-stack
decreases-value-loop-stack g l = control_weight l.source l.control + frames_weight l.source (reverse l.stack.items)

abbrev pub invariant-words-loop-word : goal.invariant-words-loop-word
invariant-words-loop-word g l =
    let o = g.H.Host.oracle in
    let t = g.H.Host.trace in
    let b = bounds_of l.bounds in
    let view = map (word_view (range_text l.words.source.now)) in
    record {
      evaluates_to : (k : List Text → State → plans.Step)
          → Simulates l.bounds.limits.commands (rule l.bounds.limits.value_bytes)
          (pieces.words b (words_of (view l.words.tree.now)) [] l.fn.self.variables k)
          (point (o l.fn.host) (t l.fn.host) l.fn.self.used l.fn.self.scripts)
          (pieces.words b (words_of (view (drop l.word-index l.words.tree.now))) (map string_bytes l.texts.items)
          l.self.variables k) (point (o l.host) (t l.host) l.self.used l.self.scripts);
      only_grows : OnlyGrows l.fn.self l.self;
    }

abbrev pub invariant-foreach_turns-loop-bounds : goal.invariant-foreach_turns-loop-bounds
invariant-foreach_turns-loop-bounds g l =
    let o = g.H.Host.oracle in
    let t = g.H.Host.trace in
    record {
      evaluates_to : (k : Next) → Simulates l.bounds.limits.commands (rule l.bounds.limits.value_bytes)
          (Runs (plans.Foreach l.bounds.remaining l.fn.loops l.fn.body l.fn.self.variables) (on_normal k))
          (point (o l.fn.host) (t l.fn.host) l.fn.self.used l.fn.self.scripts)
          (Runs (plans.Foreach l.bounds.remaining l.loops l.fn.body l.self.variables) (on_normal k))
          (point (o l.host) (t l.host) l.self.used l.self.scripts);
      script : (l.script.text.now ≡ l.fn.body) × HasItsTree l.script;
      only_grows : OnlyGrows l.fn.self l.self;
    }

abbrev pub decreases-foreach_turns-loop-bounds : goal.decreases-foreach_turns-loop-bounds
decreases-foreach_turns-loop-bounds g l = l.bounds.limits.commands - l.self.used

abbrev pub decreases-parsed_script : goal.decreases-parsed_script
decreases-parsed_script g l = 16 * l.bounds.remaining + 13

abbrev pub decreases-script_commands : goal.decreases-script_commands
decreases-script_commands g l = 16 * l.bounds.remaining + 12

abbrev pub invariant-script_commands-loop-command : goal.invariant-script_commands-loop-command
invariant-script_commands-loop-command g l =
    let o = g.H.Host.oracle in
    let t = g.H.Host.trace in
    let b = bounds_of l.bounds in
    let view = map (command_view (range_text l.script.source.now)) in
    record {
      evaluates_to : EvaluatesToText l.result_use l.bounds.limits.value_bytes (Ok l.last)
          (λ u. Simulates l.bounds.limits.commands (rule l.bounds.limits.value_bytes)
          (rules.script_commands b (script_view (range_text l.script.source.now) l.script.tree.now) []
          l.fn.self.variables) (point (o l.fn.host) (t l.fn.host) l.fn.self.used l.fn.self.scripts)
          (rules.script_commands b (commands_of (view (drop l.command-index
          (out-Script ByteRange l.script.tree.now).commands.items))) u l.self.variables)
          (point (o l.host) (t l.host) l.self.used l.self.scripts));
      only_grows : OnlyGrows l.fn.self l.self;
    }
