use Rattle.std.proofs.Common.{◌≡◌, ◌-◌, suc, sym, ap, ◌∙◌, subst, arith, string_bytes}
use Rattle.std.specs.Prelude.{Option}
use Rattle.std.specs.Option.{option_map}
use Rattle.envvars.specs.Texts.{Text}
use Rattle.module_collections.specs.files.Entries.{behind, leads}
use Rattle.module_collections.specs.files.Calls.{InEach}
use Rattle.module_collections.specs.files.PathKind.{IsSeen, path_in}
use Rattle.module_collections.specs.declared.files.follow.LinkEnd.{LinkEnd}
use Rattle.module_collections.specs.declared.files.storage.PathKind.{PathKind}
use Rattle.module_collections.proofs.files.EntryLemmas.{led_through, map_ok}
use Rattle.module_collections.proofs.files.follow.+follow.Goals as goal

pub returns-in_ok-next-in-Link-clause-path : goal.returns-in_ok-next-in-Link-clause-path
returns-in_ok-next-in-Link-clause-path g t c =
    let path = string_bytes c.args.path in
    let target = string_bytes c.in-Link.target in
    let next = string_bytes c.in_ok-next-in-Link.next in
    let more : c.args.left ≡ suc (c.args.left - 1) = omega (arith, c.if-left-eq0.false) in
    let to : next ≡ behind path target =
    c.in_ok-next-in-Link.ensures
    ∙ (ap (λ (x : Text). behind x c.as_str-in-Link-2.result.now) c.as_str-in-Link.ensures.value
    ∙ ap (λ (x : Text). behind path x) c.as_str-in-Link-2.ensures.value) in
    map_ok c.follow.result
    (λ (found : Option LinkEnd). InEach (g.S.Storage.agrees c.follow.new.storage) (λ e. leads (c.args.left - 1) e next ≡ option_map path_in found))
    (λ (found : Option LinkEnd). InEach (g.S.Storage.agrees c.follow.new.storage) (λ e. leads c.args.left e path ≡ option_map path_in found))
    (λ found h e b.
    let there = subst (λ (s : PathKind). IsSeen s (e c.as_str.result.now)) c.in-Link.is (c.in_ok-seen.ensures.answer e (c.follow.ensures.narrows e b)) in
    led_through c.args.left (c.args.left - 1) e path target next more (ap e (sym c.as_str.ensures.value) ∙ there) to ∙ h e b)
    c.follow.ensures.path
