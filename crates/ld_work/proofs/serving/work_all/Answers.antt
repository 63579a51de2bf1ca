use Rattle.std.proofs.Common.{◌≡◌, ◌+◌, [], ◌∷◌, rules}
use mir.Raw.{raw}
use mir.Syntax.{ty_int, ty_unit, w32}
use denote.Exit.{no as not_kept}
use denote.Param.Send.{arg_send, cell_keyless, param_send}
use Rattle.ld_work.specs.Shifts.{IsShift}
use Rattle.ld_work.proofs.Closing.{zip_gives}
use Rattle.ld_work.proofs.Sent.{halls_sync, job_send, shift_send}
use Rattle.ld_work.proofs.serving.work_all.Goals as goal

pub map_vec-requires-send-J : goal.map_vec-requires-send-J
map_vec-requires-send-J g c κs within = param_send _ _ (arg_send _ not_kept _ (job_send _ _ c.type_bounds.send-D c.type_bounds.send-L))

pub map_vec-requires-send-X : goal.map_vec-requires-send-X
map_vec-requires-send-X g c κs within = param_send _ _ (arg_send _ not_kept _ (shift_send _ _ c.type_bounds.send-D c.type_bounds.send-L))

pub map_vec-requires-sync-F : goal.map_vec-requires-sync-F
map_vec-requires-sync-F g c κs within = record { shared = λ x b o κ. ((((λ q. tt), c.type_bounds.sync-R.shared x.0.now x.0.ref_ptr.0 x.0.ref_ptr.1 _), (((λ q. tt), (((((λ vs. (tt, (λ q. cell_keyless q (raw ty_unit ∷ []) vs x.1.ref_ptr.0 (x.1.ref_ptr.1 + 0 + 0)))), tt), (λ q. tt)), tt), (λ q. tt))), (((λ q. tt), halls_sync.shared x.2.now x.2.ref_ptr.0 x.2.ref_ptr.1 _), (((λ q. tt), (λ vs. ((tt, tt), (λ q. cell_keyless q (raw (ty_int w32) ∷ []) vs x.3.ref_ptr.0 x.3.ref_ptr.1)))), ((tt, (λ q. tt)), tt))))), (λ q. tt)) }

pub returns : goal.returns
returns g c =
    zip_gives _ _ (λ j s. IsShift g.D.Door.doorway g.L.Loader.loading c.args.every j s) (λ j r k. search rules) c.args.jobs.items c.in_ok-map_vec.field-0.items (search rules) c.in_ok-map_vec.ensures.each
