use Rattle.std.proofs.Common.{ap, sym, subst, ◌∙◌}
use Rattle.recovery.specs.Journaled.{OnDisk}
use Rattle.core_history.specs.Books.{Told}
use Rattle.drda_server.proofs.listening.end_of.Goals as goal
use Rattle.drda_server.proofs.listening.end_of.Goals.{in-Ok, in-Err}

pub returns-then-is_failed-clause-ends : goal.returns-then-is_failed-clause-ends
returns-then-is_failed-clause-ends g c = record {
  book = c.match-close.book;
  is_of = elim c.match-close.branch [
    | in-Ok w ↦ subst (λ (b : Told g.row.D.Denot). g.B.Origin.is b.opening) (sym w.book-is) w.in-Ok.ensures.origin
    | in-Err w ↦ subst (λ (b : Told g.row.D.Denot). g.B.Origin.is b.opening) (sym w.book-is) w.in-Err.ensures.origin
  ];
  is_kept = c.is_kept.ensures;
  going = tt;
}

pub returns-clause-ends : goal.returns-clause-ends
returns-clause-ends g c = record {
  book = c.match-close.book;
  is_of = elim c.match-close.branch [
    | in-Ok w ↦ subst (λ (b : Told g.row.D.Denot). g.B.Origin.is b.opening) (sym w.book-is) w.in-Ok.ensures.origin
    | in-Err w ↦ subst (λ (b : Told g.row.D.Denot). g.B.Origin.is b.opening) (sym w.book-is) w.in-Err.ensures.origin
  ];
  is_kept = c.is_kept.ensures;
  going = sym (ap (λ (s : OnDisk g.row.D.Denot). s.is_failed) c.core.ensures) ∙ (sym c.is_failed.ensures ∙ c.if-is_failed.false);
}
