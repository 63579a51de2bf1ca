use Rattle.std.proofs.Common.{◌≡◌, sym, subst, refl, true, None}
use Rattle.std.specs.Map.{keys_of}
use Rattle.ld_history.specs.Words.{at_number}
use Rattle.ld_history.specs.Index.{IsIndex, are_numbered}
use Rattle.ld_history.proofs.IndexSessions.{numbered_put, index_opened, index_same, undone_seat, is_free}
use Rattle.ld_history.specs.declared.session.Last.TheVariants as last
use Rattle.ld_history.proofs.tables.Tables.opened.Goals as goal

pub invariant_of-self-in-Err : goal.invariant_of-self-in-Err
invariant_of-self-in-Err c =
    let t = c.args.self.now in
    let free : at_number t.index.seats.entries c.args.seat ≡ None = is_free t.sessions.entries t.index t.indexed c.args.seat c.requires.free in
    record {
      in_turn = t.in_turn;
      ordered = t.ordered;
      free = t.free;
      past = t.past;
      numbered = subst (λ l. are_numbered t.opened (keys_of l) ≡ true) (sym c.in-Err.ensures.err) t.numbered;
      indexed = subst (λ l. IsIndex l (record t.index { seats = c.remove.new.self })) (sym c.in-Err.ensures.err) (index_same t.sessions.entries t.index t.indexed (record t.index { seats = c.remove.new.self }) refl
          (undone_seat t.index.seats.entries c.insert.new.self.entries c.remove.new.self.entries c.args.seat c.args.session free c.in_ok-insert.ensures.updates.0 c.remove.ensures.updates.0) t.indexed.filled (λ q n. refl));
    }

pub invariant_of-self-in-Ok : goal.invariant_of-self-in-Ok
invariant_of-self-in-Ok c =
    let t = c.args.self.now in
    let free : at_number t.index.seats.entries c.args.seat ≡ None = is_free t.sessions.entries t.index t.indexed c.args.seat c.requires.free in
    record {
      in_turn = t.in_turn;
      ordered = t.ordered;
      free = t.free;
      past = t.past;
      numbered = subst (λ l. are_numbered c.args.session (keys_of l) ≡ true) (sym c.in-Ok.ensures.entries) (numbered_put t.opened c.args.session t.sessions.entries _ c.requires.next t.numbered);
      indexed = subst (λ l. IsIndex l (record t.index { seats = c.insert.new.self })) (sym c.in-Ok.ensures.entries)
          (index_opened t.sessions.entries t.index t.indexed t.opened c.args.session (record { seat = c.args.seat; request = 0; attempt = 0; version = 0; held = c.new.result; last = last.Idle }) c.requires.next c.ranges.session.fits t.numbered refl c.new.ensures free (record t.index { seats = c.insert.new.self }) refl refl c.in_ok-insert.ensures.updates.0);
    }
