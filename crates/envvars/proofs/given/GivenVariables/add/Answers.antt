use Rattle.std.proofs.Common.{◌≡◌, List, ℕ, ◌-◌, ◌<◌, Bool, true, false, ◌&&◌, Some, None, length, take, drop, ap, sym}
use Rattle.std.proofs.Common.{◌∙◌, subst, arith, length-drop, length-take-le}
use Rattle.std.specs.Prelude.{nat_lt}
use Rattle.std.specs.Str.{is_utf8}
use Rattle.memchr.specs.Find.{IsFirstByte, is_byte}
use Rattle.envvars.specs.Environment.{Environment}
use Rattle.envvars.specs.Given.{given_over}
use Rattle.envvars.proofs.EntryLemmas.{entry_without, entry_unnamed, entry_named, entry_name, on_ok}
use Rattle.envvars.proofs.given.GivenVariables.add.Goals as goal

-- whether a name in UTF-8 stands before this place of an entry
abbrev named : List ℕ → ℕ → Bool
named entry n = nat_lt 0 (length (take n entry)) && is_utf8 (take n entry)

pub returns-in_default-clause-given : goal.returns-in_default-clause-given
returns-in_default-clause-given c =
    let entry = λ (b : List ℕ). take (c.args.end - c.args.start) (drop c.args.start b) in
    let block = c.args.self.now.block.items in
    let none = subst (λ (b : List ℕ). IsFirstByte (is_byte 61) (entry b) None) c.deref.ensures.value c.in_default.ensures in
    λ base. ap (λ (e : Environment). given_over block e c.args.self.now.entries.items) (sym (entry_without (entry block) base none))

pub returns-then-not-is_name-clause-given : goal.returns-then-not-is_name-clause-given
returns-then-not-is_name-clause-given c =
    let entry = λ (b : List ℕ). take (c.args.end - c.args.start) (drop c.args.start b) in
    let block = c.args.self.now.block.items in
    let found = subst (λ (b : List ℕ). IsFirstByte (is_byte 61) (entry b) (Some c.in-Some.length)) c.deref.ensures.value c.in-Some.ensures in
    let unnamed = subst (λ (b : List ℕ). named (entry b) c.in-Some.length ≡ false) c.deref.ensures.value (sym c.if-not-is_name.ensures) in
    λ base. ap (λ (e : Environment). given_over block e c.args.self.now.entries.items) (sym (entry_unnamed (entry block) base c.in-Some.length found unnamed))

pub push-requires-clause-inside : goal.push-requires-clause-inside
push-requires-clause-inside c =
    let entry = λ (b : List ℕ). take (c.args.end - c.args.start) (drop c.args.start b) in
    let block = c.args.self.now.block.items in
    let found = subst (λ (b : List ℕ). IsFirstByte (is_byte 61) (entry b) (Some c.in-Some.length)) c.deref.ensures.value c.in-Some.ensures in
    let is_named = subst (λ (b : List ℕ). named (entry b) c.in-Some.length ≡ true) c.deref.ensures.value (sym c.if-not-is_name.ensures) in
    let size : length (entry block) ≡ c.args.end - c.args.start = length-take-le (c.args.end - c.args.start)
    (drop c.args.start block) (omega (arith, length-drop c.args.start block, c.requires.ordered, c.requires.within))
    in
    let inside : c.in-Some.length < c.args.end - c.args.start = omega (arith, size, found.0.high) in
    record {
      named = omega arith;
      valued = omega (arith, inside, c.requires.ordered);
      within = c.requires.within;
      utf8 = entry_name block c.args.start c.args.end c.in-Some.length c.requires.ordered (omega (arith, inside)) is_named;
    }

pub returns-clause-given : goal.returns-clause-given
returns-clause-given c =
    let entry = λ (b : List ℕ). take (c.args.end - c.args.start) (drop c.args.start b) in
    let block = c.args.self.now.block.items in
    let found = subst (λ (b : List ℕ). IsFirstByte (is_byte 61) (entry b) (Some c.in-Some.length)) c.deref.ensures.value c.in-Some.ensures in
    let is_named = subst (λ (b : List ℕ). named (entry b) c.in-Some.length ≡ true) c.deref.ensures.value (sym c.if-not-is_name.ensures) in
    on_ok c.push.result
    (λ given base. given base ∙ ap (λ (e : Environment). given_over block e c.args.self.now.entries.items)
    (entry_named block c.args.start c.args.end c.in-Some.length base c.requires.ordered c.requires.within found is_named))
    c.push.ensures.given
