use Rattle.std.proofs.Common.{◌≡◌, ap, sym, subst, ◌∙◌, refl, true, Some}
use Rattle.std.specs.Prelude.{not}
use Rattle.std.specs.Map.{keys_of}
use Rattle.ld_history.specs.declared.session.Session.{Session}
use Rattle.ld_history.specs.Words.{at_number, is_some_and, is_idle}
use Rattle.ld_history.specs.Index.{IsIndex, are_numbered}
use Rattle.ld_history.proofs.IndexSessions.{numbered_take, index_closed}
use Rattle.ld_history.proofs.tables.Tables.closed.Goals as goal

pub invariant_of-self : goal.invariant_of-self
invariant_of-self c =
    let t = c.args.self.now in
    let there : at_number t.sessions.entries c.args.session ≡ Some c.in-Some.s = sym c.in-Some.ensures.value in
    let idle : is_idle c.in-Some.s.last ≡ true = sym (sym c.requires ∙ ap (is_some_and (λ (s : Session). is_idle s.last)) there) in
    record {
      in_turn = t.in_turn;
      ordered = t.ordered;
      free = t.free;
      past = t.past;
      numbered = subst (λ l. are_numbered t.opened (keys_of l) ≡ true) (sym c.remove.ensures.entries) (numbered_take t.opened c.args.session t.sessions.entries t.numbered);
      indexed = subst (λ l. IsIndex l (record t.index { seats = c.remove-in-Some.new.self })) (sym c.remove.ensures.entries)
          (index_closed t.sessions.entries t.index t.indexed c.args.session c.in-Some.s there (ap not idle) idle (record t.index { seats = c.remove-in-Some.new.self }) refl refl c.remove-in-Some.ensures.updates.0);
    }
