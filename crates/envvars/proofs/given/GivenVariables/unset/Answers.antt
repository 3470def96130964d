use Rattle.std.proofs.Common.{ℕ, List, length, Some, None, refl, subst, arith}
use Rattle.std.proofs.lemmas.Option.{slice_get_within, slice_get_read}
use Rattle.std.specs.FinMap as finite
use Rattle.envvars.specs.Given.{IsNamed, IsFirstOf}
use Rattle.envvars.proofs.GivenLemmas.{chained-unset, given_over-unset, given_over-absent, name_at}
use Rattle.envvars.proofs.given.GivenVariables.unset.Goals as goal

pub index-entry-requires : goal.index-entry-requires
index-entry-requires c =
    let named = c.in-Some.ensures.0 in
    omega (arith, slice_get_within c.args.self.now.entries.items c.in-Some.i named.0 named.1, c.args.self.now.entries.ok.0)

pub returns-in-Some-clause-chained : goal.returns-in-Some-clause-chained
returns-in-Some-clause-chained c =
    let given = c.args.self.now in
    let es = given.entries.items in
    let named = c.in-Some.ensures.0 in
    let get = slice_get_read es (length es) c.in-Some.i c.index-entry.result.now refl (slice_get_within es c.in-Some.i named.0 named.1) c.index-entry.ensures in
    chained-unset (length given.latest.items) given.block.items es given.latest.items c.in-Some.i c.index-entry.result.now get c.requires

pub returns-in-Some-clause-unset : goal.returns-in-Some-clause-unset
returns-in-Some-clause-unset c =
    let given = c.args.self.now in
    let es = given.entries.items in
    let block = given.block.items in
    let found = subst (λ (t : List ℕ). IsFirstOf (IsNamed block es t) (Some c.in-Some.i)) c.as_bytes.ensures.value c.in-Some.ensures in
    let get = slice_get_read es (length es) c.in-Some.i c.index-entry.result.now refl (slice_get_within es c.in-Some.i found.0.0 found.0.1) c.index-entry.ensures in
    given_over-unset block finite.empty es c.args.name.now c.in-Some.i c.index-entry.result.now get
    (name_at (length given.latest.items) block es c.args.name.now c.in-Some.i c.index-entry.result.now get found.0)
    found.1

pub returns-in_default-clause-unset : goal.returns-in_default-clause-unset
returns-in_default-clause-unset c =
    let given = c.args.self.now in
    let block = given.block.items in
    let es = given.entries.items in
    let none = subst (λ (t : List ℕ). IsFirstOf (IsNamed block es t) None) c.as_bytes.ensures.value c.in_default.ensures in
    given_over-absent block es c.args.name.now none
