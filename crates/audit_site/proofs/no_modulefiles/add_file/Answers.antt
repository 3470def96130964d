use Rattle.std.proofs.Common.{◌≡◌, ◌∙◌, true, sym, ap}
use Rattle.audit_site.specs.FilesBelow.{lacks_cookie_at}
use Rattle.audit_site.proofs.PathSets.{adds_same}
use Rattle.audit_site.proofs.no_modulefiles.add_file.Goals as goal

pub returns-clause-added : goal.returns-clause-added
returns-clause-added g c = λ files listings k.
    let answer = c.in_ok-is_wanted.ensures.answer files listings k in
    adds_same c.args.found.now c.put_if.new.found (λ q. (q ≡ c.args.path.now) × (c.in_ok-is_wanted.is_wanted ≡ true)) (λ q. (q ≡ c.args.path.now) × (lacks_cookie_at files q ≡ true))
    (λ q. ((λ p. (p.0, ap (lacks_cookie_at files) p.0 ∙ (answer ∙ p.1))), (λ p. (p.0, sym answer ∙ (ap (lacks_cookie_at files) (sym p.0) ∙ p.1))))) c.in_ok-put_if.ensures
