use Rattle.ld_history.proofs.Turns.{found_rising}
use Rattle.ld_history.proofs.tables.Tables.was_stored.Goals as goal

pub turns_until-requires : goal.turns_until-requires
turns_until-requires c =
    let t = c.args.self.now in
    found_rising t.version c.args.iri.now t.turns.entries c.in-Some.turns.now c.as_slice.result.now t.in_turn c.in-Some.ensures.value c.as_slice.ensures
