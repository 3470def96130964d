use Rattle.std.proofs.Common.{◌∙◌, rules}
use Rattle.std.specs.Str.{chars}
use Rattle.tcltext.proofs.pattern.TextLemmas.{no_way}
use Rattle.tcltext.proofs.pattern.RowLemmas.{found_at_end, searched-init, searched-found, searched-more}
use Rattle.tcltext.proofs.pattern.sweep.search.Goals as goal

pub returns-then-fill : goal.returns-then-fill
returns-then-fill c = found_at_end (chars c.args.pattern.now) (chars c.args.text.now) (c.fill.ensures.whole.0 c.if-fill.true)

pub loop-prefix-init : goal.loop-prefix-init
loop-prefix-init c = record {
  utf8 = c.utf8.text;
  len = c.fill.ensures.len;
  searched = searched-init (chars c.args.pattern.now) (chars c.args.text.now) c.fill.new.states c.fill.ensures.states (no_way c.fill.result c.if-fill.false c.fill.ensures.whole);
}

pub returns-then-sweep : goal.returns-then-sweep
returns-then-sweep c =
    let s = c.loop-prefix.invariant.searched in
    searched-found (chars c.args.pattern.now) (chars c.args.text.now) (chars c.loop-prefix.rest.now) (chars c.in-Some.prefix.now) c.loop-prefix.states c.in-Some.c s c.in-Some.ensures.characters
    ((c.sweep.ensures.whole s.cs s.row_of).0 c.if-sweep.true)

pub loop-prefix-preserved : goal.loop-prefix-preserved
loop-prefix-preserved c =
    let s = c.loop-prefix.invariant.searched in
    record {
      utf8 = search rules;
      len = c.sweep.ensures.len ∙ c.loop-prefix.invariant.len;
      searched = searched-more (chars c.args.pattern.now) (chars c.args.text.now) (chars c.loop-prefix.rest.now)
          (chars c.in-Some.prefix.now) c.loop-prefix.states c.sweep.new.states c.in-Some.c s
          c.in-Some.ensures.characters
          (c.sweep.ensures.states s.cs s.row_of) (no_way c.sweep.result c.if-sweep.false (c.sweep.ensures.whole s.cs s.row_of));
    }
