use Rattle.std.proofs.Common.{◌∙◌, List, [], get_or, Bor, refl, sym, ap, subst, Some}
use Rattle.std.specs.Prelude.{bytes_eq}
use Rattle.std.specs.List.{count_by, IsDistinct}
use Rattle.std.specs.Option.{option_map}
use Rattle.std.proofs.lemmas.List.{take_all}
use Rattle.envvars.specs.Texts.{Text}
use Rattle.audit_certificate.specs.UseKeys.{key_view}
use Rattle.audit_certificate.specs.Tallies.{is_excluded_user}
use Rattle.audit_certificate.proofs.ConflictLemmas.{any_key}
use Rattle.audit_certificate.proofs.TallyLemmas.{counted_is, none_excluded, excluded_turn}
use Rattle.audit_certificate.proofs.tally.Tally.excluded.Goals as goal

pub loop-name-init : goal.loop-name-init
loop-name-init c = λ us have. none_excluded c.args.variable.now (option_map key_view c.args.used) us

pub loop-name-preserved : goal.loop-name-preserved
loop-name-preserved c = λ us have.
    excluded_turn c.args.variable.now (option_map key_view c.args.used) us c.as_slice-roots.result.now
    c.loop-name.name-index (record { ref_ptr = (0, 0); now = [] }) c.loop-name.number c.count-count.result c.in_ok-number.number c.loop-name-test.true
    (subst (λ (ks : List (Bor Text)). IsDistinct (λ x y. bytes_eq x.now y.now) ks) (sym c.as_slice-roots.ensures.keys) c.as_slice-roots.ensures.unique)
    (c.loop-name.invariant us have)
    (counted_is c.args.self.now (record {
      variable = c.args.variable;
      used = c.args.used;
      root = Some (get_or c.as_slice-roots.result.now c.loop-name.name-index (record { ref_ptr = (0, 0); now = [] }));
    }) _ us c.count-count.result c.count-count.ensures have refl)
    c.in_ok-number.ensures

pub returns : goal.returns
returns c = λ us have.
    c.loop-name.invariant us have
    ∙ ap (λ (ks : List (Bor Text)). count_by (is_excluded_user c.args.variable.now (option_map key_view c.args.used) (λ name. any_key name ks)) us)
    (take_all c.loop-name.name-index c.as_slice-roots.result.now c.loop-name-test.false ∙ c.as_slice-roots.ensures.keys)
