use Rattle.std.proofs.Common.{◌≡◌, length}
use Rattle.std.specs.Prelude.{bytes_eq}
use Rattle.std.specs.Iterator.Adapters.{zip_first, zip_second}
use Rattle.std.specs.Slice.Iter.{iter_rest}
use Rattle.envvars.specs.Texts.{slice_texts}
use Rattle.audit_laws.specs.determinism.Contexts.{same_by}
use Rattle.audit_laws.proofs.determinism.equivalent.same_names.Given as goal

-- the rests are as both are
abbrev pub invariant-loop-name : goal.invariant-loop-name
invariant-loop-name l = record {
  same : same_by bytes_eq (slice_texts (iter_rest (zip_first l.name-iterator))) (slice_texts (iter_rest (zip_second l.name-iterator)))
      ≡ same_by bytes_eq (slice_texts l.one) (slice_texts l.other);
  long : length (iter_rest (zip_first l.name-iterator)) ≡ length (iter_rest (zip_second l.name-iterator));
}
