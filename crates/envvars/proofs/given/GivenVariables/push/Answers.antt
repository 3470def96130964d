use Rattle.std.proofs.Common.{◌≡◌, ◌<◌, ℕ, List, length, length-set, Some, refl, ap, ◌∙◌, arith}
use Rattle.std.proofs.lemmas.Option.{slice_get_read}
use Rattle.envvars.specs.Given.{name_in, chain_of}
use Rattle.envvars.proofs.GivenLemmas.{chained-pushed, given_over-pushed}
use Rattle.envvars.proofs.given.GivenVariables.push.Goals as goal

pub chain_of-chain-requires : goal.chain_of-chain-requires
chain_of-chain-requires c = omega (arith, c.requires.chains, c.args.self.now.latest.ok.0, c.len.ensures)

pub returns-clause-chains : goal.returns-clause-chains
returns-clause-chains c = omega (arith, c.requires.chains, length-set c.args.self.now.latest.items c.chain_of-chain.result (Some c.len-index.result))

pub returns-clause-chained : goal.returns-clause-chained
returns-clause-chained c =
    let given = c.args.self.now in
    let inside = c.requires.inside in
    let count = length given.latest.items in
    let same : c.len.result ≡ count = omega (arith, c.len.ensures, given.latest.ok.0) in
    let within : c.chain_of-chain.result < count = omega (arith, same, c.chain_of-chain.ensures.within) in
    let chain = c.chain_of-chain.ensures.is ∙ ap (λ (n : ℕ). chain_of n c.name_in.result.now) same
    ∙ ap (chain_of count) (c.name_in.ensures ∙ ap (λ (b : List ℕ). name_in b c.args.entry) c.as_slice.ensures.value)
    in
    chained-pushed given.block.items given.entries.items c.push.new.self.items _ given.latest.items c.chain_of-chain.result c.len-index.result c.requires.chained chain
    (slice_get_read given.latest.items (length given.latest.items) c.chain_of-chain.result c.index-earlier.result.now refl within c.index-earlier.ensures)
    c.requires.chains c.in_ok-push.ensures.items (omega (arith, c.len-index.ensures, given.entries.ok.0))
    (record { named = inside.named; valued = inside.valued; within = inside.within; utf8 = inside.utf8 })

pub returns-clause-given : goal.returns-clause-given
returns-clause-given c = λ base. given_over-pushed c.args.self.now.block.items base c.args.self.now.entries.items c.push.new.self.items _ c.in_ok-push.ensures.items
