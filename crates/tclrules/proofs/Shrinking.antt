-- What the rules run before the next count: the scripts of brackets, by the conditions of loops.
use Rattle.std.proofs.Common.{ℕ, Bool, true, false, List, [], ◌∷◌, ◌++◌, Option, Some, None, Result, Ok, Err, arith}
use Rattle.std.specs.Prelude.{if◌then◌else◌, codes, bytes_eq, nat_eq, nat_lt, length}
use Rattle.tcltext.specs.chars.Runs.{Text}
use Rattle.tcltext.specs.chars.BracedText.{braced_text}
use Rattle.tcltext.specs.declared.chars.fault.TextFault.{TextFault}
use Rattle.tcltext.specs.script.Tree as tree
use Rattle.tcltext.specs.script.Tree.{Commands, no_commands, command, Parts, no_parts, part, Part}
use Rattle.tcltext.specs.script.Text.{script_of}
use Rattle.tcltext.specs.chars.Numerals.{numeral}
use Rattle.tcltext.specs.expr.Tree.{Expr, operand, unary, binary, conjunction, disjunction, choice}
use Rattle.tcltext.specs.expr.Operands as operands
use Rattle.tcltext.specs.expr.Operands.{Operand}
use Rattle.tcltext.specs.expr.Text.{expr_of}
use Rattle.tclvalue.specs.operators.Faults as value
use Rattle.tclvalue.specs.operators.Faults.{Answer, text, error, value_too_long, number_too_large, fraction, unsupported}
use Rattle.tclvalue.specs.operators.Operators.{truth, truth_text, unary_value, binary_value}
use Rattle.tclrules.specs.Messages.{no_variable}
use Rattle.tclrules.specs.Variables.{State, Location, Scalar, Element, location_of, location_named, with_value}
use Rattle.tclrules.specs.Variables.{writable, env}
use Rattle.tclrules.specs.Plans as plans
use Rattle.tclrules.specs.Plans.{Completion, Normal, Raised, Returned, Broken, Continued, Job, Script, Bracket}
use Rattle.tclrules.specs.Plans.{Step, Next, Bounds, fault, given, sized, inside, on_normal}
use Rattle.tclrules.specs.Words.{found, read_scalar, read_location, read, read_element, parts, one}
use Rattle.tclrules.specs.Expressions as expressions
use Rattle.tclrules.specs.Expressions.{operand_value, expr, decide, normal}
use Rattle.tclrules.specs.Rules.{assign, turn_pairs, are_done, commands, script_commands, parsed, rule}
use Rattle.tclrules.proofs.Totals.{Shrinks}

-- a loop weighs more than a script
abbrev pub weight : Job → ℕ
weight (Script remaining t s) = 0
weight (Bracket remaining cs s) = 0
weight (plans.While remaining c t s) = 1
weight (plans.For remaining c n t s) = 1
weight (plans.Foreach remaining ls t s) = 1

-- before the next count scripts alone are run
abbrev Light : Step → Type 0
Light p = Shrinks weight 1 p

of_choice : (b : Bool) (p q : Step) → Light p → Light q → Light (if b then p else q)
of_choice true p q h g = h
of_choice false p q h g = g

of_fault : (f : value.ValueReason) (s : State) → Light (fault f s)
of_fault (text f) s = tt
of_fault (error m) s = tt
of_fault value_too_long s = tt
of_fault number_too_large s = tt
of_fault fraction s = tt
of_fault (unsupported name) s = tt

of_given : {A : Type 0} (a : Answer A) (s : State) (k : A → Step) → ((x : A) → Light (k x)) → Light (given a s k)
of_given (Ok x) s k h = h x
of_given (Err f) s k h = of_fault f s

of_sized : (n : ℕ) (t : Text) (p : Step) → Light p → Light (sized n t p)
of_sized n t p h = of_choice (nat_lt n (length t)) _ p tt h

abbrev Goes : Next → Type 0
Goes k = (t : Text) (s : State) → Light (k t s)

of_found : (m : Text) (s : State) (k : Next) (v : Option Text) → Goes k → Light (found m s k v)
of_found m s k None h = tt
of_found m s k (Some v) h = h v s

of_plain : (x : Text) (global : Bool) (name : Text) (s : State) (k : Next) → Goes k → Light (read_scalar x global name s k)
of_plain x true name s k h = of_choice (bytes_eq name env) _ _ tt (of_found _ s k _ h)
of_plain x false name s k h = of_found _ s k _ h

of_place : (x : Text) (s : State) (k : Next) (p : Location) → Goes k → Light (read_location x s k p)
of_place x s k (Scalar global name) h = of_plain x global name s k h
of_place x s k (Element true i) h = λ v. of_found (no_variable x) s k v h
of_place x s k (Element false i) h = tt

of_read : (name : Text) (s : State) (k : Next) → Goes k → Light (read name s k)
of_read name s k h = of_given (location_named s name) s (read_location name s k) (λ p. of_place name s k p h)

of_element : (name index : Text) (s : State) (k : Next) → Goes k → Light (read_element name index s k)
of_element name index s k h = of_given (location_of s name (Some index)) s _ (λ p. of_place _ s k p h)

of_normal : (k : Next) → Goes k → (e : Completion) → Light (on_normal k e)
of_normal k h (Normal t s) = h t s
of_normal k h (Raised m s) = tt
of_normal k h (Returned t s) = tt
of_normal k h (Broken s) = tt
of_normal k h (Continued s) = tt

mutual
  of_parts : (b : Bounds) (ps : Parts) (t : Text) (s : State) (k : Next) → Goes k → Light (parts b ps t s k)
  of_parts b no_parts t s k h = h t s
  of_parts b (part p ps) t s k h = of_one b p s _ (λ u s'. of_sized b.bytes (t ++ u) _ (of_parts b ps (t ++ u) s' k h))

  of_one : (b : Bounds) (p : Part) (s : State) (k : Next) → Goes k → Light (one b p s k)
  of_one b (tree.literal t) s k h = h t s
  of_one b (tree.braced t) s k h = h (braced_text t) s
  of_one b (tree.backslash t) s k h = h t s
  of_one b (tree.variable name) s k h = of_read name s k h
  of_one b (tree.indexed name ps) s k h = of_parts b ps [] s _ (λ i s'. of_element name i s' k h)
  of_one b (tree.bracket cs) s k h = (omega arith, of_normal k h)

of_operand : (b : Bounds) (o : Operand) (s : State) (k : Next) → Goes k → Light (operand_value b o s k)
of_operand b (operands.number t) s k h = h t s
of_operand b (operands.word t) s k h = h t s
of_operand b (operands.variable name) s k h = of_read name s k h
of_operand b (operands.indexed name ps) s k h = of_parts b ps [] s _ (λ i s'. of_element name i s' k h)
of_operand b (operands.bracket cs) s k h = (omega arith, of_normal k h)
of_operand b (operands.quoted ps) s k h = of_parts b ps [] s k h
of_operand b (operands.braced t) s k h = h (braced_text t) s

of_expr : (b : Bounds) (e : Expr Operand) (s : State) (k : Next) → Goes k → Light (expr b e s k)
of_expr b (operand o) s k h = of_operand b o s _ (λ t s'. of_sized b.bytes t _ (h t s'))
of_expr b (unary u e) s k h = of_expr b e s _ (λ t s'. of_given (unary_value u t) s' _ (λ v. h v s'))
of_expr b (binary o l r) s k h = of_expr b l s _ (λ t s1. of_expr b r s1 _ (λ u s2. of_given (binary_value o t u) s2 _ (λ v. h v s2)))
of_expr b (conjunction l r) s k h =
    of_expr b l s _ (λ t s1. of_given (truth t) s1 _ (elim [ true ↦ of_expr b r s1 _ (λ u s2. of_given (truth u) s2 _ (λ v. h (truth_text v) s2)) | false ↦ h (codes "0") s1 ]))
of_expr b (disjunction l r) s k h =
    of_expr b l s _ (λ t s1. of_given (truth t) s1 _ (elim [ true ↦ h (codes "1") s1 | false ↦ of_expr b r s1 _ (λ u s2. of_given (truth u) s2 _ (λ v. h (truth_text v) s2)) ]))
of_expr b (choice c y n) s k h =
    of_expr b c s _ (λ t s1. of_given (truth t) s1 _ (elim [ true ↦ of_expr b y s1 k h | false ↦ of_expr b n s1 k h ]))

of_decide : (b : Bounds) (t : Text) (s : State) (k : Bool → State → Step) → ((holds : Bool) (s : State) → Light (k holds s)) → Light (decide b t s k)
of_decide b t s k h =
    of_given (expressions.parsed t (expr_of t)) s _ (λ e. of_expr b e s _ (λ v s'. of_given (normal v (numeral v)) s' _ (λ u. of_sized b.bytes u _ (of_given (truth u) s' _ (λ holds. h holds s')))))

of_assign : (b : Bounds) (ps : List (Text × Text)) (s : State) (k : State → Step) → ((s : State) → Light (k s)) → Light (assign b ps s k)
of_assign b [] s k h = h s
of_assign b (p ∷ ps) s k h = of_given (writable s p.0) s _ (λ q. of_sized b.bytes p.1 _ (of_assign b ps (with_value s q p.1) k h))

of_commands : (b : Bounds) (cs : Commands) (t : Text) (s : State) → Shrinks weight 0 (commands b cs t s)
of_commands b no_commands t s = tt
of_commands b (command offset source ws cs) t s = tt

of_script : (b : Bounds) (cs : Commands) (t : Text) (s : State) → Shrinks weight 0 (script_commands b cs t s)
of_script b no_commands t s = tt
of_script b (command offset source ws cs) t s = tt

of_parsed : (r : Result Commands TextFault) (k : Commands → Step) → ((cs : Commands) → Shrinks weight 0 (k cs)) → Shrinks weight 0 (parsed r k)
of_parsed (Ok cs) k h = h cs
of_parsed (Err f) k h = tt

of_begin : (b : Bool) (p q : Step) → Shrinks weight 0 p → Shrinks weight 0 q → Shrinks weight 0 (if b then p else q)
of_begin true p q h g = h
of_begin false p q h g = g

-- each job runs lighter ones before the next count
pub shrinks : (bytes : ℕ) (j : Job) → Shrinks weight (weight j) (rule bytes j)
shrinks bytes (Script remaining t s) = of_begin (nat_eq remaining 0) _ _ tt (of_parsed (script_of t) _ (λ cs. of_script (inside bytes remaining) cs [] s))
shrinks bytes (Bracket remaining cs s) = of_begin (nat_eq remaining 0) _ _ tt (of_commands (inside bytes remaining) cs [] s)
shrinks bytes (plans.While remaining c t s) = of_decide (record { bytes = bytes; remaining = remaining }) c s _ (elim [ true ↦ (λ s'. tt) | false ↦ (λ s'. tt) ])
shrinks bytes (plans.For remaining c n t s) = of_decide (record { bytes = bytes; remaining = remaining }) c s _ (elim [ true ↦ (λ s'. tt) | false ↦ (λ s'. tt) ])
shrinks bytes (plans.Foreach remaining ls t s) = of_choice (are_done ls) _ _ tt (of_assign (record { bytes = bytes; remaining = remaining }) (turn_pairs ls) s _ (λ s'. tt))
