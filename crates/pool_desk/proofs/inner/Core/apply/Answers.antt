use Rattle.std.proofs.Common.{◌≡◌, ◌∙◌, sym, ap}
use Rattle.std.specs.Prelude.{◌||◌}
use Rattle.book_model.specs.Book.{Book}
use Rattle.lease_book.specs.Links.{reply_of}
use Rattle.desk_tallies.specs.Shares.{made_of}
use Rattle.pool_desk.specs.Classes.{class_counts}
use Rattle.pool_desk.proofs.Telling.{pass_tells, totals_rise}
use Rattle.pool_desk.proofs.Homes.{comes_home, stay_home}
use Rattle.pool_desk.proofs.inner.Core.apply.Goals as goal

pub count-requires : goal.count-requires
count-requires g c =
    let lists = c.apply-reply.new.self.lists in
    let now : made_of c.totals_of-totals.result ≡ class_counts lists.counts = c.totals_of-totals.ensures ∙ ap class_counts (c.counts.ensures ∙ ap (λ (b : Book). b.counts) c.lists-lists.ensures.lists) in
    record { more = totals_rise c.self.inside.book.lists c.args.event lists c.self.inside.tallies (made_of c.totals_of-totals.result) c.self.invariant.counted c.apply-reply.ensures.lists now }

pub invariant_of-self : goal.invariant_of-self
invariant_of-self g c = record {
  kept = c.apply-reply.ensures.kept;
  counted = sym (c.count.ensures.count ∙ c.totals_of-totals.ensures ∙ ap class_counts (c.counts.ensures ∙ ap (λ (b : Book). b.counts) c.lists-lists.ensures.lists));
  at_home = stay_home g.S.Outside.home c.args.event _ c.self.inside.book.idle c.apply-reply.new.self.idle c.self.invariant.at_home c.requires.home c.apply-reply.ensures.idle;
  parts = c.self.invariant.parts;
  some_left = c.self.invariant.some_left;
  none_made = c.self.invariant.none_made;
}

pub returns-clause-home : goal.returns-clause-home
returns-clause-home g c = comes_home g.S.Outside.home c.args.event _ c.self.inside.book.idle _ c.self.invariant.at_home c.requires.home c.apply-reply.ensures.handed

pub returns-clause-counted : goal.returns-clause-counted
returns-clause-counted g c =
    let lists = c.apply-reply.new.self.lists in
    let now : made_of c.totals_of-totals.result ≡ class_counts lists.counts = c.totals_of-totals.ensures ∙ ap class_counts (c.counts.ensures ∙ ap (λ (b : Book). b.counts) c.lists-lists.ensures.lists) in
    pass_tells c.self.inside.book.lists c.args.event lists (reply_of c.apply-reply.result) c.self.inside.tallies (made_of c.totals_of-totals.result) c.args.pass.now.counted c.count.new.pass.counted
    c.self.invariant.counted c.apply-reply.ensures.lists c.apply-reply.ensures.reply now c.count.ensures.made (c.count.ensures.broken ∙ ap (λ b. b || c.args.pass.now.counted.is_broken) c.breaks.ensures)
