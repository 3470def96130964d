use Rattle.std.proofs.Common.{map, sym, ◌∙◌, rules, string_bytes}
use Rattle.std.proofs.lemmas.Result.{err_from_is_err_and}
use Rattle.std.proofs.lemmas.List.{map_push}
use Rattle.tcltext.proofs.list.ListTurns.{list-end, list-fails, list-shorter, list-more, empty_ends}
use Rattle.tcltext.proofs.list.read.read_elements.Goals as goal

pub returns-then-is_empty : goal.returns-then-is_empty
returns-then-is_empty c =
    list-end c.args.text.now (map string_bytes c.loop-start.elements.items) c.loop-start.rest.now c.split_run.result.1.now
    c.split_run.ensures.rest (sym (empty_ends _) ∙ sym c.is_empty.ensures ∙ c.if-is_empty.true) c.loop-start.invariant.1

pub returns-in_err-element : goal.returns-in_err-element
returns-in_err-element c =
    let p = err_from_is_err_and c.from_residual.result c.from_residual.ensures.1 in
    rw (p.1, p.2) (list-fails c.args.text.now (map string_bytes c.loop-start.elements.items) c.loop-start.rest.now c.split_run.result.1.now c.in_err-element.field-0.0
    c.split_run.ensures.rest (sym (empty_ends _) ∙ sym c.is_empty.ensures ∙ c.if-is_empty.false) c.in_err-element.ensures c.loop-start.invariant.1)

pub loop-start-smaller : goal.loop-start-smaller
loop-start-smaller c = list-shorter c.loop-start.rest.now c.split_run.result.1.now (string_bytes c.in_ok-element.element) c.in_ok-element.after.now
    c.split_run.ensures.rest (sym (empty_ends _) ∙ sym c.is_empty.ensures ∙ c.if-is_empty.false) c.in_ok-element.ensures

pub loop-start-preserved : goal.loop-start-preserved
loop-start-preserved c = (
  search rules,
  list-more c.args.text.now (map string_bytes c.loop-start.elements.items) c.loop-start.rest.now c.split_run.result.1.now (string_bytes c.in_ok-element.element) c.in_ok-element.after.now
      (map string_bytes c.push.new.self.items) c.split_run.ensures.rest (sym (empty_ends _) ∙ sym c.is_empty.ensures ∙ c.if-is_empty.false) c.in_ok-element.ensures
      (rw c.in_ok-push.ensures.items (map_push string_bytes c.loop-start.elements.items c.in_ok-element.element)) c.loop-start.invariant.1,
)
