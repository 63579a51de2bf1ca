-- Lines are told apart by how they are spelled.
use Rattle.std.proofs.Common.{◌≡◌, ◌∙◌, refl, sym, ap, true, if◌then◌else◌, get_or, ℕ, ◌+◌, ◌*◌, Option, Some, None, List, ◌∷◌, ◌++◌}
use Rattle.std.specs.Prelude.{codes}
use Rattle.std.specs.Bool.{◌==◌}
use Rattle.ld_script.specs.declared.line.Line.{Line}
use Rattle.ld_script.specs.declared.line.Line.TheVariants as line
use Rattle.ld_script.specs.declared.verb.Verb.{Verb}
use Rattle.ld_script.specs.declared.verb.Verb.TheVariants as verb
use Rattle.ld_script.specs.Lines.{spelled}
use Rattle.ld_script.specs.Reading.{lacks, name, verb_of, arguments, IsSplit, IsVerb, AreArguments, IsLine}
use Rattle.ld_script.proofs.Arguments.{same_front, same_back, unsplit}

-- ---- the first word

name_lacks : (v : Verb) → lacks 32 (name v) ≡ true
name_lacks verb.Open = refl
name_lacks verb.Pin = refl
name_lacks verb.Lack = refl
name_lacks verb.Give = refl
name_lacks verb.Fail = refl
name_lacks verb.Lapse = refl
name_lacks verb.Evict = refl
name_lacks verb.Revise = refl
name_lacks verb.Answer = refl
name_lacks verb.Close = refl

-- a number that tells the names apart: by the first and the third letter
unfoldable pub key : List ℕ → ℕ
key word = get_or word 0 0 * 256 + get_or word 2 0

named : ℕ → Verb
named k =
    if k == key (codes "open") then verb.Open
    else if k == key (codes "pin") then verb.Pin
    else if k == key (codes "lack") then verb.Lack
    else if k == key (codes "give") then verb.Give
    else if k == key (codes "fail") then verb.Fail
    else if k == key (codes "lapse") then verb.Lapse
    else if k == key (codes "evict") then verb.Evict
    else if k == key (codes "revise") then verb.Revise
    else if k == key (codes "answer") then verb.Answer
    else verb.Close

named_name : (v : Verb) → named (key (name v)) ≡ v
unfolding key named
named_name verb.Open = refl
named_name verb.Pin = refl
named_name verb.Lack = refl
named_name verb.Give = refl
named_name verb.Fail = refl
named_name verb.Lapse = refl
named_name verb.Evict = refl
named_name verb.Revise = refl
named_name verb.Answer = refl
named_name verb.Close = refl

pub name_injective : (v w : Verb) → name v ≡ name w → v ≡ w
name_injective v w e = sym (named_name v) ∙ ap (λ n. named (key n)) e ∙ named_name w

-- a line is its first word, a space, and the rest
pub spelled_parts : (l : Line) → spelled l ≡ name (verb_of l) ++ 32 ∷ arguments l
spelled_parts (line.Open seat) = refl
spelled_parts (line.Pin session) = refl
spelled_parts (line.Lack session iri) = refl
spelled_parts (line.Give flight length mark) = refl
spelled_parts (line.Fail flight before after) = refl
spelled_parts (line.Lapse flight) = refl
spelled_parts (line.Evict session iri) = refl
spelled_parts (line.Revise session iri) = refl
spelled_parts (line.Answer session) = refl
spelled_parts (line.Close session) = refl

pub spelled_split : {text : List ℕ} (l : Line) → text ≡ spelled l → IsSplit 32 text (name (verb_of l)) (arguments l)
spelled_split l e = record { parts = e ∙ spelled_parts l; first = name_lacks (verb_of l) }

-- ---- what a text that is split at its first space spells

pub no_spaces : {text : List ℕ} → lacks 32 text ≡ true → IsLine text None
no_spaces h l good e = unsplit h (spelled_split l e)

pub no_verb : {text word rest : List ℕ} → IsSplit 32 text word rest → IsVerb word None → IsLine text None
no_verb s none l good e = none (verb_of l) (same_front s (spelled_split l e))

pub of_verb : {text word rest : List ℕ} (v : Verb) → IsSplit 32 text word rest → word ≡ name v → (read : Option Line) → AreArguments v rest read → IsLine text read
of_verb {text} {word} {rest} v s n None none = λ l good e.
    none l good (name_injective (verb_of l) v (sym (same_front s (spelled_split l e)) ∙ n)) (same_back s (spelled_split l e))
of_verb {text} {word} {rest} v s n (Some l) is =
    (is.0, s.parts ∙ ap (λ w. w ++ 32 ∷ rest) (n ∙ sym (ap name is.1)) ∙ ap (λ r. name (verb_of l) ++ 32 ∷ r) is.2 ∙ sym (spelled_parts l))

-- ---- two good lines that are spelled alike are one
