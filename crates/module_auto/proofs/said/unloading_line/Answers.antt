use Rattle.module_auto.proofs.said.unloading_line.Goals as goal

pub returns : goal.returns
returns c =
    rw (c.as_slice-2.ensures.value, c.as_slice-3.ensures.value, c.in_ok-named.ensures, c.in_ok-more.ensures, c.as_slice.ensures.value) at c.with_line.ensures
