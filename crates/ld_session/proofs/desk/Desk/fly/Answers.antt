use Rattle.std.proofs.Common.{◌∙◌, ◌++◌, ◌∷◌, [], sym, ap, subst}
use Rattle.ld_flight.specs.Loads.{entry_of}
use Rattle.ld_session.specs.Landing.{Landed}
use Rattle.ld_session.proofs.desk.Desk.fly.Goals as goal
use Rattle.ld_session.proofs.desk.Desk.fly.Goals.{in-Ok, in-Err}

pub returns : goal.returns
returns g c =
    let before = g.L.Loader.loading c.args.loader.now in
    let after = g.L.Loader.loading c.load.new.self in
    elim c.match-load.branch [
      | in-Ok w ↦
          let l = w.in-Ok.loaded in
          let same = w.in-Ok.ensures.pass in
          subst (λ x. Landed c.args.visit x.0 before after c.args.pass.number x.1) (sym w.visit-is)
          (subst (λ p. Landed c.args.visit w.land.result.0 before after p.number w.land.result.1) same
          (w.land.ensures before after (w.in-Ok.ensures.given ∙ ap (λ p. before.given ++ entry_of p l.url l.text ∷ []) (sym same)) w.in-Ok.ensures.keeps_count))
      | in-Err w ↦
          subst (λ x. Landed c.args.visit x.0 before after c.args.pass.number x.1) (sym w.visit-is)
          (subst (λ p. Landed c.args.visit w.turn_back.result.0 before after p.number w.turn_back.result.1) w.in-Err.ensures.pass_back
          (w.turn_back.ensures before after w.in-Err.ensures.keeps_given w.in-Err.ensures.before w.in-Err.ensures.after))
    ]
