use Rattle.std.proofs.Common.{◌∷◌, ◌∙◌, sym}
use Rattle.tcltext.specs.pattern.Search.Windows.{without_first}
use Rattle.tcltext.proofs.pattern.SetLemmas.{set_ends, item_at-close, item_at-one, item_at-range, item_at-open}
use Rattle.tcltext.proofs.pattern.TextLemmas.{no_way}
use Rattle.tcltext.proofs.pattern.tail.Window.holds.Goals as goal

pub returns-then-p-eq93 : goal.returns-then-p-eq93
returns-then-p-eq93 c xs cs k = set_ends c.args.c (c.args.p ∷ xs) cs (item_at-close c.args.p xs c.if-p-eq93.true)

pub returns-then-not-begins_with : goal.returns-then-not-begins_with
returns-then-not-begins_with c xs cs k =
    let no_dash = no_way c.begins_with.result c.if-not-begins_with.true c.begins_with.ensures in
    c.holds_from.ensures (c.args.p ∷ xs) xs cs (item_at-one c.args.p xs c.if-p-eq93.false (λ e. no_dash (k.here.first ∙ e))) k.here

pub returns-in-Some : goal.returns-in-Some
returns-in-Some c xs cs k =
    let dash_first = sym k.here.first ∙ c.begins_with.ensures.0 c.if-not-begins_with.false in
    c.holds_from-in-Some.ensures (c.args.p ∷ xs) (without_first (without_first xs)) cs
    (item_at-range c.args.p c.in-Some.high xs c.if-p-eq93.false dash_first (sym k.next.first ∙ c.in-Some.is)) k.after_next

pub returns-in-None : goal.returns-in-None
returns-in-None c xs cs k =
    let dash_first = sym k.here.first ∙ c.begins_with.ensures.0 c.if-not-begins_with.false in
    set_ends c.args.c (c.args.p ∷ xs) cs (item_at-open c.args.p xs c.if-p-eq93.false dash_first (sym k.next.first ∙ c.in-None.is))
