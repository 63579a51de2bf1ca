use Rattle.std.proofs.Common.{◌≡◌, ◌∙◌, refl, sym, ap, subst, Some, [], ◌∷◌}
use Rattle.std.proofs.lemmas.Str.{IsUtf8-nil}
use Rattle.ld_tree.proofs.ReadUtf8.{ascii_first}
use Rattle.ld_tree_read.specs.Cursor.{left}
use Rattle.ld_tree_read.specs.Strings.{PassesChar}
use Rattle.ld_tree_read.proofs.Characters.{long_passes, low_unescaped}
use Rattle.ld_tree_read.specs.State.{plain, begun, tail}
use Rattle.ld_tree_read.proofs.Exits.{if_ok, if_err}
use Rattle.ld_tree_read.proofs.Tokens.{not_byte}
use Rattle.ld_tree_read.proofs.Inner.{on_in, next_left, plain_low, plain_ascii, plain_lead, plain_no_lead, ends_inside, byte_stops}
use Rattle.ld_tree_read.proofs.character.skip_char.Goals as goal

pub returns-in_default-clause-stops : goal.returns-in_default-clause-stops
returns-in_default-clause-stops c = λ n fs. ends_inside c.args.cursor.now.at n fs plain (left c.args.cursor.now) refl c.in_default.ensures.none ∙ ap Some (sym c.no_text.ensures)

pub returns-then-byte-lt32-clause-stops : goal.returns-then-byte-lt32-clause-stops
returns-then-byte-lt32-clause-stops c = λ n fs.
    let d = c.args.cursor.now in
    let byte = c.in-Some.byte in
    let next = c.in-Some.ensures.some in
    let no_quote : byte ≡ 34 → ⊥ = λ e. c.requires.no_quote next.0 (next.1 ∙ ap (λ b. b ∷ next.0) e) in
    let no_slash : byte ≡ 92 → ⊥ = λ e. c.requires.no_slash next.0 (next.1 ∙ ap (λ b. b ∷ next.0) e) in
    byte_stops d.at n fs (left d) byte next.0 next.1 no_quote (plain_low byte no_slash c.if-byte-lt32.true) ∙ ap Some (sym c.no_text-then-byte-lt32.ensures)

pub returns-then-byte-lt128-clause-leads : goal.returns-then-byte-lt128-clause-leads
returns-then-byte-lt128-clause-leads c = λ n fs.
    let d = c.args.cursor.now in
    let byte = c.in-Some.byte in
    let next = c.in-Some.ensures.some in
    let no_quote : byte ≡ 34 → ⊥ = λ e. c.requires.no_quote next.0 (next.1 ∙ ap (λ b. b ∷ next.0) e) in
    let no_slash : byte ≡ 92 → ⊥ = λ e. c.requires.no_slash next.0 (next.1 ∙ ap (λ b. b ∷ next.0) e) in
    on_in d c.advance.new.self n fs plain plain byte (next_left (left d) (left c.advance.new.self) next.0 byte next.1 c.advance.ensures.left) c.advance.ensures.at (not_byte byte 34 no_quote)
    (plain_ascii byte no_slash c.if-byte-lt32.false c.if-byte-lt128.true)

pub returns-in_default-lead-clause-stops : goal.returns-in_default-lead-clause-stops
returns-in_default-lead-clause-stops c = λ n fs.
    let d = c.args.cursor.now in
    let byte = c.in-Some.byte in
    let next = c.in-Some.ensures.some in
    let no_quote : byte ≡ 34 → ⊥ = λ e. c.requires.no_quote next.0 (next.1 ∙ ap (λ b. b ∷ next.0) e) in
    let no_slash : byte ≡ 92 → ⊥ = λ e. c.requires.no_slash next.0 (next.1 ∙ ap (λ b. b ∷ next.0) e) in
    byte_stops d.at n fs (left d) byte next.0 next.1 no_quote (plain_no_lead byte no_slash c.if-byte-lt128.false (sym c.in_default-lead.ensures)) ∙ ap Some (sym c.no_text-in_default-lead.ensures)

pub returns-clause-leads : goal.returns-clause-leads
returns-clause-leads c =
    let d = c.args.cursor.now in
    let byte = c.in-Some.byte in
    let next = c.in-Some.ensures.some in
    let no_quote : byte ≡ 34 → ⊥ = λ e. c.requires.no_quote next.0 (next.1 ∙ ap (λ b. b ∷ next.0) e) in
    let no_slash : byte ≡ 92 → ⊥ = λ e. c.requires.no_slash next.0 (next.1 ∙ ap (λ b. b ∷ next.0) e) in
    let t = tail c.in-Some-lead.low c.in-Some-lead.high c.in-Some-lead.more in
    if_ok c.skip_tail.result (λ x h n fs. on_in d c.advance-2.new.self n fs plain (begun t) byte (next_left (left d) (left c.advance-2.new.self) next.0 byte next.1 c.advance-2.ensures.left) c.advance-2.ensures.at (not_byte byte 34 no_quote)
    (plain_lead byte no_slash t c.if-byte-lt128.false (sym c.in-Some-lead.ensures)) ∙ h n fs) c.skip_tail.ensures.leads

pub returns-clause-stops : goal.returns-clause-stops
returns-clause-stops c =
    let d = c.args.cursor.now in
    let byte = c.in-Some.byte in
    let next = c.in-Some.ensures.some in
    let no_quote : byte ≡ 34 → ⊥ = λ e. c.requires.no_quote next.0 (next.1 ∙ ap (λ b. b ∷ next.0) e) in
    let no_slash : byte ≡ 92 → ⊥ = λ e. c.requires.no_slash next.0 (next.1 ∙ ap (λ b. b ∷ next.0) e) in
    let t = tail c.in-Some-lead.low c.in-Some-lead.high c.in-Some-lead.more in
    if_err c.skip_tail.result (λ x h n fs. on_in d c.advance-2.new.self n fs plain (begun t) byte (next_left (left d) (left c.advance-2.new.self) next.0 byte next.1 c.advance-2.ensures.left) c.advance-2.ensures.at (not_byte byte 34 no_quote)
    (plain_lead byte no_slash t c.if-byte-lt128.false (sym c.in-Some-lead.ensures)) ∙ h n fs) c.skip_tail.ensures.stops

pub returns-then-byte-lt128-clause-passed : goal.returns-then-byte-lt128-clause-passed
returns-then-byte-lt128-clause-passed c =
    let d = c.args.cursor.now in
    let byte = c.in-Some.byte in
    let next = c.in-Some.ensures.some in
    let no_quote : byte ≡ 34 → ⊥ = λ e. c.requires.no_quote next.0 (next.1 ∙ ap (λ b. b ∷ next.0) e) in
    let no_slash : byte ≡ 92 → ⊥ = λ e. c.requires.no_slash next.0 (next.1 ∙ ap (λ b. b ∷ next.0) e) in
    record {
      passed = byte ∷ [];
      is = next_left (left d) (left c.advance.new.self) next.0 byte next.1 c.advance.ensures.left;
      utf8 = ascii_first byte [] c.if-byte-lt128.true IsUtf8-nil;
      each = (low_unescaped byte c.if-byte-lt32.false no_quote no_slash, tt);
    }

pub returns-clause-passed : goal.returns-clause-passed
returns-clause-passed c =
    let d = c.args.cursor.now in
    let byte = c.in-Some.byte in
    let next = c.in-Some.ensures.some in
    let is = next_left (left d) (left c.advance-2.new.self) next.0 byte next.1 c.advance-2.ensures.left in
    if_ok c.skip_tail.result
    (λ x w. subst (λ bs. PassesChar bs (left c.skip_tail.new.cursor)) (sym is)
    (long_passes byte c.in-Some-lead.low c.in-Some-lead.high c.in-Some-lead.more (left c.advance-2.new.self) (left c.skip_tail.new.cursor) (sym c.in-Some-lead.ensures) w))
    c.skip_tail.ensures.passed
