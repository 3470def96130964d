use Rattle.std.proofs.Common.{ℕ, List, length, Some, None, refl, sym, ◌∙◌, subst, arith}
use Rattle.std.proofs.lemmas.Option.{slice_get_within, slice_get_read}
use Rattle.std.specs.FinMap as finite
use Rattle.envvars.specs.Given.{IsNamed, IsFirstOf, value_in}
use Rattle.envvars.proofs.GivenLemmas.{lookup-given, not_given, name_at}
use Rattle.envvars.proofs.given.GivenVariables.get.Goals as goal

pub returns-in-None : goal.returns-in-None
returns-in-None c =
    let given = c.args.self.now in
    not_given given.block.items given.entries.items c.args.name.now
    (subst (λ (t : List ℕ). IsFirstOf (IsNamed given.block.items given.entries.items t) None)
    c.as_bytes.ensures.value c.in-None.ensures)

pub index-requires : goal.index-requires
index-requires c =
    let named = c.in-Some.ensures.0 in
    omega (arith, slice_get_within c.args.self.now.entries.items c.in-Some.i named.0 named.1, c.args.self.now.entries.ok.0)

pub value_in-requires : goal.value_in-requires
value_in-requires c =
    let es = c.args.self.now.entries.items in
    let named = c.in-Some.ensures.0 in
    rw c.as_slice.ensures.value (c.requires.inside c.in-Some.i c.index.result.now
    (slice_get_read es (length es) c.in-Some.i c.index.result.now refl (slice_get_within es c.in-Some.i named.0 named.1) c.index.ensures))

pub returns-in-Some : goal.returns-in-Some
returns-in-Some c =
    let given = c.args.self.now in
    let es = given.entries.items in
    let block = given.block.items in
    let found = subst (λ (t : List ℕ). IsFirstOf (IsNamed block es t) (Some c.in-Some.i)) c.as_bytes.ensures.value c.in-Some.ensures in
    let get = slice_get_read es (length es) c.in-Some.i c.index.result.now refl (slice_get_within es c.in-Some.i found.0.0 found.0.1) c.index.ensures in
    ◌∙◌ {b = value_in block c.index.result.now} (rw c.as_slice.ensures.value at c.value_in.ensures)
    (sym (lookup-given block finite.empty es c.args.name.now c.in-Some.i c.index.result.now get
    (name_at (length given.latest.items) block es c.args.name.now c.in-Some.i c.index.result.now get found.0)
    found.1))
