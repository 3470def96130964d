use Rattle.audit_report.proofs.remarks.disagreement_words.Goals as goal

pub returns-in-PathNotInOrder : goal.returns-in-PathNotInOrder
returns-in-PathNotInOrder c = rw c.in-PathNotInOrder.is (rw c.as_str-in-PathNotInOrder.ensures.value at c.said_of_path.ensures)

pub returns-in-StackNotInOrder : goal.returns-in-StackNotInOrder
returns-in-StackNotInOrder c = rw c.in-StackNotInOrder.is (rw c.as_str-in-StackNotInOrder.ensures.value at c.said_of-in-StackNotInOrder.ensures)
