use Rattle.std.proofs.Common.{◌∙◌, sym, ap, ◌++◌, ◌∷◌, [], append_assoc, string_bytes, lit<}
use Rattle.std.proofs.lemmas.Str.{encode_ascii}
use Rattle.ld_iri.proofs.Segments.{next_output_else}
use Rattle.ld_iri.proofs.dots.push_segment.Goals as goal

pub returns-in_ok-push_str-in_default : goal.returns-in_ok-push_str-in_default
returns-in_ok-push_str-in_default c =
    c.in_ok-push_str-in_default.ensures.bytes
    ∙ ap (λ t. t ++ c.args.segment.now) c.in_ok-push-in_default.ensures.bytes
    ∙ ap (λ t. string_bytes c.args.text.now ++ t ++ c.args.segment.now) (encode_ascii 47 (lit< tt))
    ∙ append_assoc (string_bytes c.args.text.now) (47 ∷ []) c.args.segment.now
    ∙ sym (next_output_else (string_bytes c.args.text.now) c.args.segment.now c.in_default.not-text c.in_default.not-text-2)
