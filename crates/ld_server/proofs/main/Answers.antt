use Rattle.std.proofs.Common.{◌≡◌, ◌∙◌, map, string_bytes, subst}
use Rattle.std.specs.Prelude.{codes}
use Rattle.ld_work.specs.Forms.{IsFormOf}
use Rattle.ld_work.proofs.Forms.{same_workers}
use Rattle.ld_server.proofs.main.Goals as goal

pub serve_all-ended-requires-clause-posts : goal.serve_all-ended-requires-clause-posts
serve_all-ended-requires-clause-posts g c κs = λ form is.
    let words = c.in-Ok.words.items in
    let read = subst (λ l. IsFormOf (codes "serve") (map (string_bytes) l) c.in-Some.form) c.as_slice.ensures.value c.in-Some.ensures in
    let other = subst (λ l. IsFormOf (codes "serve") (map (string_bytes) l) form) c.as_slice-3.ensures.value is in
    c.in-Ok-posts.ensures ∙ same_workers (codes "serve") (map (string_bytes) words) c.in-Some.form form read other
