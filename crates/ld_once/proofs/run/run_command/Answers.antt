use Rattle.std.proofs.Common.{refl, sym, subst, List, [], ℕ}
use Rattle.ld_edge.specs.declared.status.Status.TheVariants as ended
use Rattle.ld_once.specs.Replies.{IsUnfinished}
use Rattle.ld_once.specs.Runs.{IsReply, usage, input_too_long, read_failed, no_memory, unasked}
use Rattle.ld_once.proofs.Endings.{finished, reply_is, Due-reply, IsReadFor-reply, cut}
use Rattle.ld_once.proofs.run.run_command.Goals as goal

pub returns-in_default : goal.returns-in_default
returns-in_default g c = finished _ _ _ _ _ _ _ ended.Usage c.finish.result [] usage (c.in_default.ensures, c.requires, refl, refl) refl c.finish.ensures

pub returns-in-Ok : goal.returns-in-Ok
returns-in-Ok g c =
    let whole = rw c.in-Ok-Whole.field-0-is at c.in-Ok-Whole.ensures.whole in
    let bytes = c.in-Ok-Whole.bytes.items in
    let status = c.in-Ok.reply.status in
    let out = c.as_slice-in-Ok.result.now in
    let before = g.L.Loader.loading c.args.loader.now in
    let after = g.L.Loader.loading c.reply_to.new.loader in
    let replied = subst (λ (b : List ℕ). IsReply c.in-Some.command b before after status c.in-Ok.reply.text.items) c.as_slice.ensures.value c.in-Ok.ensures.reply in
    let due = subst (λ (o : List ℕ). IsReply c.in-Some.command bytes before after status o) (sym c.as_slice-in-Ok.ensures.value) replied in
    let is = reply_is c.in-Some.command bytes before after status out due in
    finished _ _ _ _ _ before after status c.finish-in-Ok.result bytes out (Due-reply c.in-Some.command _ bytes out before after status is c.in-Some.ensures whole.0 due)
    (IsReadFor-reply status _ _ bytes is whole.1 whole.2) c.finish-in-Ok.ensures

pub returns-in-Ok-Whole : goal.returns-in-Ok-Whole
returns-in-Ok-Whole g c =
    let whole = rw c.in-Ok-Whole.field-0-is at c.in-Ok-Whole.ensures.whole in
    let before = g.L.Loader.loading c.args.loader.now in
    let after = g.L.Loader.loading c.reply_to.new.loader in
    let unfinished = subst (λ (b : List ℕ). IsUnfinished c.in-Some.command b before after) c.as_slice.ensures.value c.in-Err.ensures.unfinished in
    no_memory (c.in-Some.command, c.in-Some.ensures) whole.1.2 refl (cut _ c.in-Some.command _ _ c.in-Ok-Whole.bytes.items before after c.in-Some.ensures whole.1 unfinished)

pub returns-in-Ok-TooLong : goal.returns-in-Ok-TooLong
returns-in-Ok-TooLong g c =
    let long = rw c.in-Ok-TooLong.field-0-is at c.in-Ok-TooLong.ensures.too_long in
    finished _ _ _ _ _ _ _ ended.InputTooLong c.finish-in-Ok-TooLong.result long.0 input_too_long ((c.in-Some.command, c.in-Some.ensures), long.1, refl, refl) long.2 c.finish-in-Ok-TooLong.ensures

pub returns-in-Err-Failed : goal.returns-in-Err-Failed
returns-in-Err-Failed g c =
    let rose = rw c.in-Err-Failed.field-0-is at c.in-Err-Failed.ensures.refused in
    read_failed (c.in-Some.command, c.in-Some.ensures) rose refl refl

pub returns : goal.returns
returns g c =
    let count = rw c.in-Err-NoMemory.field-0-is at c.in-Err-NoMemory.ensures.refused in
    no_memory (c.in-Some.command, c.in-Some.ensures) count refl (unasked refl)
