use Rattle.std.proofs.Common.{[], ◌++◌, length, ap, ap₂, ◌∙◌}
use Rattle.std.specs.Prelude.{codes}
use Rattle.std.specs.Fmt.{decimal}
use Rattle.ld_head.specs.Replies.{field, line, request_fields, status_line, text_if}
use Rattle.ld_head.proofs.reply.head_text.Goals as goal

pub returns : goal.returns
returns c =
    let r = c.args.reply.now in
    let status = c.in_ok-print_status.ensures ∙ ap (λ l. l ++ status_line r.status) c.in_ok-head.ensures.items in
    let media = c.in_ok-print_field.ensures ∙ ap₂ (λ l m. l ++ field (codes "Content-Type") m) status (c.as_bytes.ensures.value ∙ c.text.ensures) in
    let body = c.in_ok-print_number.ensures ∙ ap₂ (λ l b. l ++ field (codes "Content-Length") (decimal (length b))) media c.as_slice.ensures in
    let request = c.in_ok-print_request_fields.ensures ∙ ap (λ l. l ++ request_fields r.fields) body in
    let allow = c.in_ok-print_field_if.ensures ∙ ap (λ l. l ++ text_if r.allow (field (codes "Allow") (codes "POST"))) request in
    let close = c.in_ok-print_field_if-2.ensures ∙ ap (λ l. l ++ text_if r.close (field (codes "Connection") (codes "close"))) allow in
    c.in_ok-extend_from_slice.ensures.items ∙ ap (λ l. l ++ line []) close
