use Rattle.std.proofs.Common.{◌++◌, List, flat_map, map, String, Global, string_bytes, ap, ◌∙◌, arith}
use Rattle.std.specs.Option.{option_map}
use Rattle.std.proofs.lemmas.List.{length-map}
use Rattle.envvars.specs.Texts.{Text}
use Rattle.module_reports.specs.descriptions.Readable.{unreadable_line}
use Rattle.module_reports.proofs.descriptions.ReadableLemmas.{of_what_is_left}
use Rattle.module_reports.proofs.descriptions.readable.describe_readable.Goals as goal

pub returns-in-Ok-clause-described : goal.returns-in-Ok-clause-described
returns-in-Ok-clause-described g c =
    let tree = c.describe.new.tree in
    let texts : List (String Global) → List Text = λ l. map (λ (s : String Global). string_bytes s) l in
    let left = string_bytes c.in-Ok.description.left_out in (
      texts tree.hidden.items,
      tree.failed,
      omega (arith, length-map tree.hidden.items (λ (s : String Global). string_bytes s), tree.counted),
      record {
        left = left;
        described = of_what_is_left (texts tree.hidden.items) (texts tree.seen.items) (g.T.Tree.agrees tree.tree) c.args.limits c.args.shell c.args.env.now
            (option_map (λ t. t.now) c.args.sought) (string_bytes c.in-Ok.description.text) left tree.apart c.in-Ok.ensures.described;
        leaves_out = ◌∙◌ {b = left ++ flat_map unreadable_line (texts c.as_slice.result.now)} c.in_ok-push_unreadable-in-Ok.ensures
            (ap (λ (l : List (String Global)). left ++ flat_map unreadable_line (texts l)) c.as_slice.ensures.value);
      },
    )
