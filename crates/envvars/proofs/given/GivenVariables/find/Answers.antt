use Rattle.std.proofs.Common.{◌≡◌, ℕ, ◌<◌, List, length, get_or, slice_get, Option, Some, IfSome, refl, sym, ap, ◌∙◌}
use Rattle.std.proofs.Common.{subst, arith}
use Rattle.std.proofs.lemmas.Grind.{common_steps}
use Rattle.std.proofs.lemmas.Option.{slice_get_within, slice_get_read}
use Rattle.envvars.specs.Given.{IsNamed, IsInChain, IsLastBelow, chain_of, name_in}
use Rattle.envvars.specs.declared.given.Entry.{Entry}
use Rattle.envvars.proofs.TextLemmas.{same_text}
use Rattle.envvars.proofs.GivenLemmas.{IsFirstAbove, chain_begins, chain_met, chain_passed, chain_ends, chain_leads}
use Rattle.envvars.proofs.GivenLemmas.{chain_kept, chain_falls, other_name, apart}
use Rattle.envvars.proofs.given.GivenVariables.find.Goals as goal

in_chain : (count : ℕ) (block : List ℕ) (es : List Entry) (name : List ℕ) (at : Option ℕ) (i : ℕ) → at ≡ Some i
    → IfSome at (IsInChain count block es (chain_of count name)) → IsInChain count block es (chain_of count name) i
in_chain count block es name at i is h = subst (λ (o : Option ℕ). IfSome o (IsInChain count block es (chain_of count name))) is h

entry_at : (count : ℕ) (block : List ℕ) (es : List Entry) (n i : ℕ) (e : Entry) → IsInChain count block es n i → e ≡ get_or es i e → slice_get es i ≡ Some e
entry_at count block es n i e p h = slice_get_read es (length es) i e refl (slice_get_within es i p.0 p.1) h

pub chain_of-requires : goal.chain_of-requires
chain_of-requires c =
    let given = c.args.self.now in
    let filled : 0 < length given.entries.items = grind (arith, common_steps, given.entries.ok.0) in
    omega (arith, c.requires.chains filled, given.latest.ok.0, c.len.ensures)

pub index-at-requires : goal.index-at-requires
index-at-requires c = omega (arith, c.chain_of.ensures.within, c.len.ensures)

pub loop-at-init : goal.loop-at-init
loop-at-init c =
    let given = c.args.self.now in
    let count = length given.latest.items in
    let same : c.len.result ≡ count = omega (arith, c.len.ensures, given.latest.ok.0) in
    let within : c.chain_of.result < count = omega (arith, same, c.chain_of.ensures.within) in
    let begins = subst (λ (n : ℕ). IsLastBelow (IsInChain count given.block.items given.entries.items n) (length given.entries.items) c.index-at.result.now)
    (c.chain_of.ensures.is ∙ ap (λ (n : ℕ). chain_of n c.args.name.now) same)
    (c.requires.begins c.chain_of.result c.index-at.result.now (slice_get_read given.latest.items count c.chain_of.result c.index-at.result.now refl within c.index-at.ensures)) in
    record {
      chain = chain_kept count given.block.items given.entries.items c.args.name.now _ _ begins;
      first = chain_begins count given.block.items given.entries.items c.args.name.now c.index-at.result.now begins;
    }

pub index-entry-requires : goal.index-entry-requires
index-entry-requires c =
    let count = length c.args.self.now.latest.items in
    let block = c.args.self.now.block.items in
    let es = c.args.self.now.entries.items in
    let p = in_chain count block es c.args.name.now c.loop-at.at c.in-Some.i c.in-Some.is c.loop-at.invariant.chain in
    omega (arith, slice_get_within es c.in-Some.i p.0 p.1, c.args.self.now.entries.ok.0)

pub name_in-requires : goal.name_in-requires
name_in-requires c =
    let count = length c.args.self.now.latest.items in
    let block = c.args.self.now.block.items in
    let es = c.args.self.now.entries.items in
    let p = in_chain count block es c.args.name.now c.loop-at.at c.in-Some.i c.in-Some.is c.loop-at.invariant.chain in
    rw c.as_slice.ensures.value (c.requires.inside c.in-Some.i _ (entry_at count block es _ c.in-Some.i c.index-entry.result.now p c.index-entry.ensures))

pub loop-at-smaller-then-eq : goal.loop-at-smaller-then-eq
loop-at-smaller-then-eq c =
    let count = length c.args.self.now.latest.items in
    let block = c.args.self.now.block.items in
    let es = c.args.self.now.entries.items in
    let p = in_chain count block es c.args.name.now c.loop-at.at c.in-Some.i c.in-Some.is c.loop-at.invariant.chain in
    let get = entry_at count block es _ c.in-Some.i c.index-entry.result.now p c.index-entry.ensures in
    chain_falls count block es c.args.name.now c.in-Some.i _ _ c.in-Some.is (chain_leads count block es c.args.name.now _ _ _ get p (c.requires.leads c.in-Some.i _ get))

pub loop-at-preserved-then-eq : goal.loop-at-preserved-then-eq
loop-at-preserved-then-eq c =
    let count = length c.args.self.now.latest.items in
    let block = c.args.self.now.block.items in
    let es = c.args.self.now.entries.items in
    let p = in_chain count block es c.args.name.now c.loop-at.at c.in-Some.i c.in-Some.is c.loop-at.invariant.chain in
    let get = entry_at count block es _ c.in-Some.i c.index-entry.result.now p c.index-entry.ensures in
    let leads = chain_leads count block es c.args.name.now _ _ _ get p (c.requires.leads c.in-Some.i _ get) in
    let named = same_text c.name_in.result.now c.args.name.now (sym c.eq.ensures ∙ c.if-eq.true) in
    let name = sym (c.name_in.ensures ∙ ap (λ (b : List ℕ). name_in b c.index-entry.result.now) c.as_slice.ensures.value) ∙ named in
    record {
      chain = chain_kept count block es c.args.name.now _ _ leads;
      first = chain_met count block es c.args.name.now c.in-Some.i _ (c.index-entry.result.now, get, name) leads;
    }

pub loop-at-smaller : goal.loop-at-smaller
loop-at-smaller c =
    let count = length c.args.self.now.latest.items in
    let block = c.args.self.now.block.items in
    let es = c.args.self.now.entries.items in
    let p = in_chain count block es c.args.name.now c.loop-at.at c.in-Some.i c.in-Some.is c.loop-at.invariant.chain in
    let get = entry_at count block es _ c.in-Some.i c.index-entry.result.now p c.index-entry.ensures in
    chain_falls count block es c.args.name.now c.in-Some.i _ _ c.in-Some.is (chain_leads count block es c.args.name.now _ _ _ get p (c.requires.leads c.in-Some.i _ get))

pub loop-at-preserved : goal.loop-at-preserved
loop-at-preserved c =
    let count = length c.args.self.now.latest.items in
    let block = c.args.self.now.block.items in
    let es = c.args.self.now.entries.items in
    let p = in_chain count block es c.args.name.now c.loop-at.at c.in-Some.i c.in-Some.is c.loop-at.invariant.chain in
    let get = entry_at count block es _ c.in-Some.i c.index-entry.result.now p c.index-entry.ensures in
    let leads = chain_leads count block es c.args.name.now _ _ _ get p (c.requires.leads c.in-Some.i _ get) in
    let name = c.name_in.ensures ∙ ap (λ (b : List ℕ). name_in b c.index-entry.result.now) c.as_slice.ensures.value in
    record {
      chain = chain_kept count block es c.args.name.now _ _ leads;
      first = chain_passed count block es c.args.name.now c.in-Some.i _ _
          (other_name count block es c.args.name.now c.in-Some.i _ get
          (λ is. apart c.name_in.result.now c.args.name.now (sym c.eq.ensures ∙ c.if-eq.false) (name ∙ is))) leads
          (subst (λ (o : Option ℕ). IsFirstAbove (IsNamed c.args.self.now.block.items c.args.self.now.entries.items c.args.name.now) o c.loop-at.found) c.in-Some.is c.loop-at.invariant.first);
    }

pub returns : goal.returns
returns c = chain_ends (length c.args.self.now.latest.items) c.args.self.now.block.items c.args.self.now.entries.items
    c.args.name.now c.loop-at.found (subst
    (λ (o : Option ℕ). IsFirstAbove (IsNamed c.args.self.now.block.items c.args.self.now.entries.items c.args.name.now)
    o c.loop-at.found) c.in_default.is c.loop-at.invariant.first)
