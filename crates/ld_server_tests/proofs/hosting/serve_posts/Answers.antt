use Rattle.std.proofs.Common.{rules, ◌∙◌, sym, map, string_bytes, subst}
use Rattle.std.specs.Prelude.{codes}
use Rattle.ld_work.specs.Forms.{IsFormOf}
use Rattle.ld_work.proofs.Forms.{same_workers}
use Rattle.ld_server_tests.proofs.hosting.serve_posts.Goals as goal

pub serve_all-requires-clause-posts : goal.serve_all-requires-clause-posts
serve_all-requires-clause-posts g c κs within = λ form is.
    let words = c.as_slice.result.now in
    let same = c.as_slice-2.ensures.value ∙ sym c.as_slice.ensures.value in
    let other = subst (λ l. IsFormOf (codes "serve") (map (string_bytes) l) form) same is in
    let workers = same_workers (codes "serve") (map (string_bytes) words) c.in_ok-form.form form c.in_ok-form.ensures other in
    search (rules, c.if-form-count.false, c.len-count.ensures, workers)
