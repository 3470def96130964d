use Rattle.std.proofs.Common.{◌≡◌, true}
use Rattle.std.specs.Prelude.{OnOk, Result, Ok, Err}
use Rattle.audit_site.specs.FilesBelow.{Adds}
use Rattle.audit_site.proofs.PathSets.{adds_same}
use Rattle.audit_site.proofs.no_modulefiles.put_if.Goals as goal

map_on : {A E : Type 0} (r : Result A E) (P Q : Type 0) → (P → Q) → OnOk r P → OnOk r Q
map_on (Ok x) P Q f h = f h
map_on (Err e) P Q f h = tt

pub returns-then-is_wanted : goal.returns-then-is_wanted
returns-then-is_wanted c =
    map_on c.put_path.result (Adds c.args.found.now c.put_path.new.found (λ q. q ≡ c.args.path.now))
    (Adds c.args.found.now c.put_path.new.found (λ q. (q ≡ c.args.path.now) × (c.args.is_wanted ≡ true)))
    (λ h. adds_same c.args.found.now c.put_path.new.found (λ q. q ≡ c.args.path.now) (λ q. (q ≡ c.args.path.now) × (c.args.is_wanted ≡ true))
    (λ q. ((λ e. (e, c.if-is_wanted.true)), (λ p. p.0))) h) c.put_path.ensures
