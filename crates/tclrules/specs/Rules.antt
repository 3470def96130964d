-- The rules: what each form of command does (the page of each command), one clause a form, and the plan of each job.
use Rattle.std.specs.Prelude.{ℕ, List, [], ◌∷◌, ◌++◌, Bool, true, false, ◌&&◌, if◌then◌else◌, length, Option, Some}
use Rattle.std.specs.Prelude.{None, Result, Ok, Err, codes, bytes_eq, drop}
use Rattle.std.specs.Fmt.{signed_decimal}
use Rattle.std.specs.Option.{unwrap_or}
use Rattle.std.specs.List.{list_all}
use Rattle.tcltext.specs.chars.Runs.{Text}
use Rattle.tcltext.specs.declared.chars.fault.TextFault.{TextFault}
use Rattle.tcltext.specs.script.Tree.{Commands, no_commands, command, Words}
use Rattle.tcltext.specs.script.Text.{script_of}
use Rattle.tcltext.specs.list.Lists.{list_text}
use Rattle.tclvalue.specs.operators.Faults.{Answer, ◌>>=◌, error}
use Rattle.tclvalue.specs.operators.Messages.{wrong_words, not_a_list}
use Rattle.tclvalue.specs.operators.Elements.{elements_of}
use Rattle.tclvalue.specs.Indexes.{count_of}
use Rattle.tclvalue.specs.operators.Numbers.{sum}
use Rattle.tclvalue.specs.Characters.{joined, concatenated}
use Rattle.tclvalue.specs.Globs.{glob}
use Rattle.tclvalue.specs.Commands.{command_value}
use Rattle.tclrules.specs.Derivation.{BadText, LeftOut, Stopped, Counts, Moves, Consults, ReadsEnvironment, Runs}
use Rattle.tclrules.specs.Derivation.{HostReply, WithResult, NoSuchCommand}
use Rattle.tclrules.specs.Messages.{no_command, cannot_unset, outside_loop, no_loop_variable, cannot_redefine}
use Rattle.tclrules.specs.Names.{is_among, unsupported_commands, is_reserved}
use Rattle.tclrules.specs.Variables.{Location, Scalar, Element, Parameter, Procedure, Frame, State, in_frame, lookup}
use Rattle.tclrules.specs.Variables.{store, without, env, location_named, writable, value_at, with_value, without_value}
use Rattle.tclrules.specs.Variables.{sharable, shared_in}
use Rattle.tclrules.specs.Forms.{Form, Get, Set, Unset, Append, ListAppend, Increase, Express, If, While, For, Foreach}
use Rattle.tclrules.specs.Forms.{Switch, Define, Return, Break, Continue, Exit, Error, Catch, Exists, Global, Put}
use Rattle.tclrules.specs.Forms.{increase_of, core_form}
use Rattle.tclrules.specs.Plans as job
use Rattle.tclrules.specs.Plans.{Completion, Normal, Raised, Returned, Broken, Continued, Items, Job, Script, Bracket}
use Rattle.tclrules.specs.Plans.{Step, Next, Bounds, ended, halt, raise, on_normal, given, sized, begin, inside}
use Rattle.tclrules.specs.Plans.{with_script, with_offset, without_innermost, left}
use Rattle.tclrules.specs.Words.{words, read}
use Rattle.tclrules.specs.Expressions.{express, decide}

abbrev pub is_empty : {A : Type 0} → List A → Bool
is_empty [] = true
is_empty (x ∷ xs) = false

-- Variables

-- writes the variable at a location, and goes on with its value
abbrev pub write_at : Bounds → Bool × Text → Text → State → Next → Step
write_at b p value s k = sized b.bytes value (k value (with_value s p value))

abbrev pub write : Bounds → Text → Text → State → Next → Step
write b name value s k = given (writable s name) s (λ p. write_at b p value s k)

-- the value of a variable, or this one where it is unset
abbrev pub value_or : Text → State → Bool × Text → Text
value_or default s p = unwrap_or (value_at s p) default

-- unset: a variable that is unset already is an error without -nocomplain; those before it stay unset
abbrev pub unset_at : Bool → Text → State → Bool × Text → (State → Step) → Option Text → Step
unset_at quiet name s p k (Some value) = k (without_value s p)
unset_at true name s p k None = k s
unset_at false name s p k None = raise (cannot_unset name) s

abbrev pub unset : Bool → List Text → State → (State → Step) → Step
unset quiet [] s k = k s
unset quiet (v ∷ vs) s k = given (writable s v) s (λ p. unset_at quiet v s p (λ s'. unset quiet vs s' k) (value_at s p))

-- global: outside of a procedure it has no effect, and no name is judged
abbrev pub share : List Text → State → (State → Step) → Step
share [] s k = k s
share (v ∷ vs) s k = given (location_named s v >>= sharable) s
    (λ name. share vs (in_frame s (shared_in s.frame name)) k)

abbrev pub share_from : Option Frame → List Text → State → (State → Step) → Step
share_from None vs s k = k s
share_from (Some f) vs s k = share vs s k

-- lappend: the text of the list with the old elements and the new
abbrev pub lengthened : Text → List Text → Answer Text
lengthened old xs = elements_of old >>= (λ es. Ok (list_text (es ++ xs)))

-- incr: the old value is judged before the increment
abbrev pub increased : Text → Text → Answer Text
increased old n = count_of old >>= (λ a. count_of n >>= (λ b. sum a b >>= (λ z. Ok (signed_decimal z))))

-- info exists: an element of env is read from the environment, where env denotes the global array
abbrev pub is_set : State → Next → Option Text → Step
is_set s k None = k (codes "0") s
is_set s k (Some value) = k (codes "1") s

abbrev pub exists_at : State → Next → Location → Step
exists_at s k (Scalar true name) = if bytes_eq name env then k (codes "1") s else is_set s k (value_at s (true, name))
exists_at s k (Scalar false name) = is_set s k (value_at s (false, name))
exists_at s k (Element true x) = ReadsEnvironment x (is_set s k)
exists_at s k (Element false x) = k (codes "0") s

-- Bodies

-- a text evaluated as a script, with what goes on after each completion
abbrev pub body : Bounds → Text → State → (Completion → Step) → Step
body b t s k = Runs (Script b.remaining t s) k

-- if: the first body whose condition holds, or the last; without one the result is empty
abbrev pub otherwise : Bounds → Option Text → State → Next → Step
otherwise b None s k = k [] s
otherwise b (Some t) s k = body b t s (on_normal k)

abbrev pub branches : Bounds → List (Text × Text) → Option Text → State → Next → Step
branches b [] other s k = otherwise b other s k
branches b (p ∷ ps) other s k = decide b p.0 s
    (elim [ true ↦ (λ s'. body b p.1 s' (on_normal k)) | false ↦ (λ s'. branches b ps other s' k) ])

-- what a turn of a loop goes on with: break ends the loop, continue the turn
abbrev pub after_turn : Bounds → (State → Step) → Completion → Step
after_turn b again (Normal t s) = left b (again s)
after_turn b again (Continued s) = left b (again s)
after_turn b again (Broken s) = left b (ended (Normal [] s))
after_turn b again (Raised m s) = ended (Raised m s)
after_turn b again (Returned t s) = ended (Returned t s)

-- and the script between the turns of for: break ends the loop, continue is for a loop outside
abbrev pub after_next : Bounds → (State → Step) → Completion → Step
after_next b again (Normal t s) = left b (again s)
after_next b again (Broken s) = left b (ended (Normal [] s))
after_next b again (Continued s) = ended (Continued s)
after_next b again (Raised m s) = ended (Raised m s)
after_next b again (Returned t s) = ended (Returned t s)

-- a turn is counted as its body begins
abbrev pub turn : Bounds → Text → State → (State → Step) → Step
turn b t s again = Counts (body b t s (after_turn b again))

-- the remaining turns of a loop
abbrev pub while_turns : Bounds → Text → Text → State → Step
while_turns b c t s = decide b c s
    (elim [
      | true ↦ (λ s'. turn b t s' (λ s''. Runs (job.While b.remaining c t s'') ended))
      | false ↦ (λ s'. ended (Normal [] s'))
    ])

abbrev pub for_turns : Bounds → Text → Text → Text → State → Step
for_turns b c n t s =
    decide b c s
    (elim [
      | true ↦ (λ s1. turn b t s1 (λ s2. body b n s2 (after_next b (λ s3. Runs (job.For b.remaining c n t s3) ended))))
      | false ↦ (λ s1. ended (Normal [] s1))
    ])

-- foreach: the names of each list, one at least, and its items are judged before the first turn
abbrev pub named : List Text → Answer (List Text)
named [] = Err (error no_loop_variable)
named (v ∷ vs) = Ok (v ∷ vs)

-- the lists of a foreach: their variables and items
abbrev pub loops : List (Text × Text) → Answer (List Items)
loops [] = Ok []
loops (p ∷ ps) = elements_of p.0 >>= named
    >>= (λ vs. elements_of p.1 >>= (λ es. loops ps >>= (λ ls. Ok ((vs, es) ∷ ls))))

-- the variables of a turn with their items; a variable without an item has the empty text
abbrev pub pairs : List Text → List Text → List (Text × Text)
pairs [] es = []
pairs (v ∷ vs) [] = (v, []) ∷ pairs vs []
pairs (v ∷ vs) (e ∷ es) = (v, e) ∷ pairs vs es

abbrev pub turn_pairs : List Items → List (Text × Text)
turn_pairs [] = []
turn_pairs (l ∷ ls) = pairs l.0 l.1 ++ turn_pairs ls

-- the lists after a turn
abbrev pub shortened : List Items → List Items
shortened [] = []
shortened (l ∷ ls) = (l.0, drop (length l.0) l.1) ∷ shortened ls

-- no list has items any more
abbrev pub are_done : List Items → Bool
are_done ls = list_all (λ l. is_empty l.1) ls

-- gives variables these values, one after another
abbrev pub assign : Bounds → List (Text × Text) → State → (State → Step) → Step
assign b [] s k = k s
assign b (p ∷ ps) s k = write b p.0 p.1 s (λ t s'. assign b ps s' k)

abbrev pub foreach_turns : Bounds → List Items → Text → State → Step
foreach_turns b ls t s =
    if are_done ls then ended (Normal [] s)
    else assign b (turn_pairs ls) s (λ s1. turn b t s1 (λ s2. Runs (job.Foreach b.remaining (shortened ls) t s2) ended))

-- switch: the first pattern that matches, default where it is the last; - stands for the next body
abbrev pub is_default : Text → List (Text × Text) → Bool
is_default p ps = bytes_eq p (codes "default") && is_empty ps

abbrev pub fits : Bool → Text → Text → Bool
fits true t p = glob p t
fits false t p = bytes_eq p t

abbrev pub fall_through : Text → List (Text × Text) → Text
fall_through t [] = t
fall_through t (p ∷ ps) = if bytes_eq t (codes "-") then fall_through p.1 ps else t

abbrev pub chosen : Bool → Text → List (Text × Text) → Option Text
chosen by_glob t [] = None
chosen by_glob t (p ∷ ps) = if is_default p.0 ps then Some p.1 else if fits by_glob t p.0 then Some
    (fall_through p.1 ps)
    else chosen by_glob t ps

-- catch: a code, and the result or the message in the variable
abbrev pub catch_into : Bounds → Option Text → Text → Text → State → Next → Step
catch_into b None code value s k = k code s
catch_into b (Some v) code value s k = write b v value s (λ t s'. k code s')

abbrev pub caught : Bounds → Option Text → Next → Completion → Step
caught b v k (Normal t s) = left b (catch_into b v (codes "0") t s k)
caught b v k (Raised m s) = left b (catch_into b v (codes "1") m s k)
caught b v k (Returned t s) = left b (catch_into b v (codes "2") t s k)
caught b v k (Broken s) = left b (catch_into b v (codes "3") [] s k)
caught b v k (Continued s) = left b (catch_into b v (codes "4") [] s k)

-- Procedures

-- proc: a parameter, with a default or without one
abbrev pub parameter : List Text → Answer Parameter
parameter (p ∷ []) = Ok (p, None)
parameter (p ∷ default ∷ []) = Ok (p, Some default)
parameter es = Err (error not_a_list)

abbrev pub parameters : List Text → Answer (List Parameter)
parameters [] = Ok []
parameters (p ∷ ps) = elements_of p >>= parameter >>= (λ q. parameters ps >>= (λ qs. Ok (q ∷ qs)))

abbrev pub unless_reserved : List Text → Text → Answer (List Parameter) → Answer (List Parameter)
unless_reserved of_host name ps = if is_reserved of_host name then Err (error (cannot_redefine name)) else ps

abbrev pub with_procedure : State → Text → Procedure → State
with_procedure s name p = record s { procedures = store s.procedures name p }

-- the value of a parameter, and the words that remain: args, where it is the last, takes all of them
abbrev pub argument : Text → Parameter → List Text → Answer (Text × List Text)
argument name p (w ∷ ws) = Ok (w, ws)
argument name (p, Some default) [] = Ok (default, [])
argument name (p, None) [] = Err (error (wrong_words name))

abbrev pub parameter_value : Text → Parameter → List Parameter → List Text → Answer (Text × List Text)
parameter_value name p ps ws = if bytes_eq p.0 (codes "args") && is_empty ps then Ok
    (list_text ws, []) else argument name p ws

-- the parameters with their values. A wrong number of words is judged before any of them is bound; of a name that comes
-- again the first value counts
abbrev pub parameter_values : Text → List Parameter → List Text → Answer (List (Text × Text))
parameter_values name [] [] = Ok []
parameter_values name [] (w ∷ ws) = Err (error (wrong_words name))
parameter_values name (p ∷ ps) ws = parameter_value name p ps ws >>=
    (λ a. parameter_values name ps a.1 >>= (λ vs. Ok ((p.0, a.0) ∷ without vs p.0)))

-- a procedure gives back the caller's variables; break and continue don't leave it
abbrev pub after_call : Bounds → Option Frame → Next → Completion → Step
after_call b caller k (Normal t s) = left b (k t (in_frame s caller))
after_call b caller k (Returned t s) = left b (k t (in_frame s caller))
after_call b caller k (Raised m s) = raise m (in_frame s caller)
after_call b caller k (Broken s) = raise (outside_loop (codes "break")) (in_frame s caller)
after_call b caller k (Continued s) = raise (outside_loop (codes "continue")) (in_frame s caller)

-- a procedure has variables of its own, of which the parameters are the first
abbrev pub new_frame : Option Frame
new_frame = Some (record { own = []; shared = [] })

abbrev pub call : Bounds → Text → Procedure → List Text → State → Next → Step
call b name p ws s k =
    given (parameter_values name p.parameters ws) s
    (λ vs. assign b vs (in_frame s new_frame) (λ s'. body b p.body s' (after_call b s.frame k)))

-- Commands

-- the host's reply to a command
abbrev pub replied : Text → State → Next → HostReply → Step
replied name s k (WithResult t) = k t s
replied name s k NoSuchCommand = raise (no_command name) s

-- what each form does
abbrev pub form : Bounds → Form → State → Next → Step
form b (Get v) s k = read v s k
form b (Set v x) s k = write b v x s k
form b (Unset quiet vs) s k = unset quiet vs s (k [])
form b (Append v xs) s k = given (writable s v) s (λ p. write_at b p (value_or [] s p ++ joined [] xs) s k)
form b (ListAppend v xs) s k = given (writable s v) s
    (λ p. given (lengthened (value_or [] s p) xs) s (λ t. write_at b p t s k))
form b (Increase v ns) s k =
    given (writable s v) s (λ p. given (increase_of ns >>= increased (value_or (codes "0") s p)) s
    (λ t. write_at b p t s k))
form b (Express xs) s k = sized b.bytes (concatenated xs) (express b (concatenated xs) s k)
form b (If ps other) s k = branches b ps other s k
form b (While c t) s k = Runs (job.While b.remaining c t s) (on_normal k)
form b (For t c n u) s k = body b t s (on_normal (λ v s'. Runs (job.For b.remaining c n u s') (on_normal k)))
form b (Foreach ps t) s k = given (loops ps) s (λ ls. Runs (job.Foreach b.remaining ls t s) (on_normal k))
form b (Switch by_glob t ps) s k = otherwise b (chosen by_glob t ps) s k
form b (Define name args t) s k = given (unless_reserved s.reserved name (elements_of args >>= parameters)) s
    (λ ps. k [] (with_procedure s name (record { parameters = ps; body = t })))
form b (Return t) s k = ended (Returned t s)
form b Break s k = ended (Broken s)
form b Continue s k = ended (Continued s)
form b Exit s k = halt Stopped
form b (Error m) s k = raise m s
form b (Catch t v) s k = body b t s (caught b v k)
form b (Exists v) s k = given (location_named s v) s (exists_at s k)
form b (Global vs) s k = share_from s.frame vs s (k [])
form b (Put ws) s k = Consults (codes "puts" ∷ ws) (replied (codes "puts") s k)

-- a command of another name: a procedure, else an unsupported command of Tcl, else one for the host
abbrev pub other_command : Bounds → Text → List Text → State → Next → Option Procedure → Step
other_command b name ws s k (Some p) = call b name p ws s k
other_command b name ws s k None =
    if is_among unsupported_commands name then halt (LeftOut name) else Consults (name ∷ ws) (replied name s k)

abbrev pub core_command : Bounds → Text → List Text → State → Next → Option (Answer Form) → Step
core_command b name ws s k (Some f) = given f s (λ f. form b f s k)
core_command b name ws s k None = other_command b name ws s k (lookup s.procedures name)

abbrev pub value_command : Bounds → Text → List Text → State → Next → Option Text → Step
value_command b name ws s k (Some t) = k t s
value_command b name ws s k None = core_command b name ws s k (core_form name ws)

-- a command by its words; without words the result is empty
abbrev pub called : Bounds → List Text → State → Next → Step
called b [] s k = k [] s
called b (name ∷ ws) s k = given (command_value (name ∷ ws) b.bytes) s (value_command b name ws s k)

-- Scripts

-- a command by its words, which is counted before they are substituted
abbrev pub counted : Bounds → Words → State → Next → Step
counted b ws s k = Counts (words b ws [] s (λ texts s1. called b texts s1 (λ u s2. sized b.bytes u (k u s2))))

-- the rest of the script of a bracket, after a command with this result
abbrev pub commands : Bounds → Commands → Text → State → Step
commands b no_commands t s = ended (Normal t s)
commands b (command offset source ws cs) t s = counted b ws s (commands b cs)

-- the rest of a script with a text of its own, after a command with this result. The script is left at its end
abbrev pub script_commands : Bounds → Commands → Text → State → Step
script_commands b no_commands t s = Moves without_innermost (ended (Normal t s))
script_commands b (command offset source ws cs) t s =
    Moves (with_offset offset) (counted b ws s (script_commands b cs))

-- goes on with the tree of a text; one that is no script halts
abbrev pub parsed : Result Commands TextFault → (Commands → Step) → Step
parsed (Ok cs) k = k cs
parsed (Err f) k = halt (BadText f)

-- The plan of each job: the depth is judged before the text is parsed
abbrev pub rule : ℕ → Job → Step
rule bytes (Script remaining t s) = begin remaining (parsed (script_of t)
    (λ cs. Moves (with_script (inside bytes remaining) t) (script_commands (inside bytes remaining) cs [] s)))
rule bytes (Bracket remaining cs s) = begin remaining (commands (inside bytes remaining) cs [] s)
rule bytes (job.While remaining c t s) = while_turns (record { bytes = bytes; remaining = remaining }) c t s
rule bytes (job.For remaining c n t s) = for_turns (record { bytes = bytes; remaining = remaining }) c n t s
rule bytes (job.Foreach remaining ls t s) = foreach_turns (record { bytes = bytes; remaining = remaining }) ls t s

-- how a file ends: return and continue end it, break stops it
abbrev pub file_ended : Completion → Step
file_ended (Normal t s) = ended (Normal t s)
file_ended (Raised m s) = ended (Raised m s)
file_ended (Returned t s) = ended (Normal t s)
file_ended (Continued s) = ended (Normal [] s)
file_ended (Broken s) = halt Stopped

abbrev pub file : ℕ → Text → State → Step
file remaining t s = Runs (Script remaining t s) file_ended
