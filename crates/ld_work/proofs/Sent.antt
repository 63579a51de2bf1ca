-- What the workers share and hand on may cross threads: a book does, since its parts do.
use denote.RattleType.{RattleType}
use denote.Param.Send.{IsSend, IsSync, sendable}
use denote.Param.SendFields.{declared_send, declared_sync}
use Rattle.std.proofs.Crossing.{crosses}
use Rattle.ld_tree.proofs.entries.Entries.TheSendSync as entries
use Rattle.ld_tree.proofs.items.Items.TheSendSync as items
use Rattle.ld_tree.proofs.text.Text.TheSendSync as text
use Rattle.ld_tree.proofs.tree.Num.TheSendSync as num
use Rattle.ld_tree.proofs.tree.Tree.TheLaws.TheKnot as tree
use Rattle.ld_history.proofs.state.State.TheSendSync as state
use Rattle.ld_rec.specs.contracts.doc.Doc as doc
use Rattle.ld_store.specs.contracts.snapshot.Snapshot as snapshot
use Rattle.ld_book.specs.contracts.book.Book as book
use Rattle.ld_book.specs.contracts.hall.Hall as hall
use Rattle.ld_book.proofs.bell.Bell.TheSendSync as bell
use Rattle.ld_book.proofs.hall.Blank.TheSendSync as blank
use Rattle.ld_book.specs.contracts.hall.Blank as blank_type
use Rattle.ld_book.specs.contracts.hall.BlankTold.TheImpl as blank_told
use denote.Builtin as builtin
use Rattle.ld_head.proofs.session_end.SessionEnd.TheSendSync as session_end
use Rattle.ld_turn.specs.declared.told.Told as Told
use Rattle.ld_turn.proofs.lock.TurnLock.TheSendSync as lock
use Rattle.ld_turn.proofs.seat.Seat.TheSendSync as seat
use Rattle.ld_work.proofs.post.Post.TheSendSync as post_crosses
use Rattle.ld_work.specs.contracts.post.Post as post
use Rattle.ld_work.specs.contracts.worker.Job as job
use Rattle.ld_work.specs.contracts.worker.Log as log
use Rattle.ld_work.specs.contracts.worker.Shift as shift

ruleset parts = (tree.crosses, entries.the_send, entries.the_sync, items.the_send, items.the_sync, text.the_send, text.the_sync, num.the_send, num.the_sync, num.the_field_send, num.the_field_sync, sendable, crosses)

doc_send : IsSend doc.the_row
doc_send = search parts depth 40 fits 20000

doc_sync : IsSync doc.the_row
doc_sync = search parts depth 40 fits 20000

snapshot_send : IsSend snapshot.the_row
snapshot_send = search (doc_send, doc_sync, parts) depth 40 fits 20000

snapshot_sync : IsSync snapshot.the_row
snapshot_sync = search (doc_send, doc_sync, parts) depth 40 fits 20000

pub book_send : IsSend book.the_row
book_send = search (state.the_send, doc_send, doc_sync, snapshot_send, snapshot_sync, sendable, crosses) depth 20

log_send : IsSend log.the_row
log_send = search (session_end.the_send, sendable, crosses) depth 30 fits 20000

post_send : (D L : RattleType) → IsSend D → IsSend L → IsSend (post.the_row D L)
post_send D L d l = post_crosses.the_send D L d l

pub job_send : (D L : RattleType) → IsSend D → IsSend L → IsSend (job.the_row D L)
job_send D L d l = declared_send (job.the_type D L) (search (book_send, blank.the_send, seat.the_send, sendable, crosses) depth 30 fits 20000, (post_send D L d l, tt))

pub shift_send : (D L : RattleType) → IsSend D → IsSend L → IsSend (shift.the_row D L)
shift_send D L d l = declared_send (shift.the_type D L) (search (book_send, blank.the_send, seat.the_send, sendable, crosses) depth 30 fits 20000, (post_send D L d l, (search (log_send, sendable, crosses) depth 30 fits 20000, tt)))

module _ (V E : RattleType) (told : Told.Ghosts V.Denot E.Denot) where
  pub hall_sync : IsSend V → IsSync (hall.the_row V E told)
  hall_sync v =
      declared_sync (hall.the_type V E told) (search (book_send, lock.the_sync, sendable, crosses) depth 30 fits 20000, (search (v, lock.the_sync, sendable, crosses) depth 30 fits 20000, (search (bell.the_sync, sendable, crosses) depth 30 fits 20000, tt)))

pub halls_sync : IsSync (hall.the_row blank_type.the_row builtin.unit blank_told.ghosts)
halls_sync = hall_sync blank_type.the_row builtin.unit blank_told.ghosts blank.the_send
