-- Between the tokens of a text.
use Rattle.std.proofs.Common.{◌≡◌, ◌∙◌, refl, sym, ap, subst, ℕ, ◌+◌, ◌<◌, ◌≤◌, Bool, true, false, ◌||◌, true≢false, cond, nat_eq, List, [], ◌∷◌, ◌++◌, map, reverse, Option, Some, None, length, arith, rules, lt-ltb, le-ltb}
use Rattle.std.proofs.lemmas.List.{reverse-append, length-reverse, length-map}
use Rattle.ld_tree_read.specs.Stack.{level_of, levels}
use Rattle.ld_tree_read.specs.declared.frame.Frame.{Frame}
use Rattle.std.specs.Vec.{vec_len}
use Rattle.std.specs.declared.vec.Vec.{Vec}
use Rattle.std.specs.declared.alloc.Global.{Global}
use Rattle.ld_tree_read.specs.State.{Level}
use Rattle.ld_tree_read.specs.State.{in_list, in_map}
use Rattle.ld_tree_read.specs.declared.refusal.ReadRefusal.TheVariants as r
use Rattle.ld_tree_read.specs.declared.cursor.Cursor.{Cursor}
use Rattle.std.specs.Prelude.{codes}
use Rattle.ld_tree_read.specs.Cursor.{left, ahead}
use Rattle.ld_tree.specs.Numbers.{is_digit}
use Rattle.ld_tree.specs.Numbers.{number_at}
use Rattle.ld_tree_read.specs.Refusals.{refusal, value_refusal, takes_value, plain_refusal, number_refusal}
use Rattle.ld_tree.specs.Reading.{is_white}
use Rattle.ld_tree_read.specs.State.{Here, value, item_or_end, name_or_end, name, colon, done, string, plain, word, step}
use Rattle.ld_tree_read.specs.Steps.{Spaced, NoWhite, word_here}
use Rattle.ld_tree_read.proofs.Follows.{goes, refused, no_value, alike, nowhere, not_opening}
use Rattle.ld_tree_read.proofs.Tokens.{not_byte, stuck}
use Rattle.ld_tree_read.proofs.Scaled.{passed, chosen, same_nat}

isnt : (bs : List ℕ) (k b : ℕ) (r : List ℕ) → bs ≡ b ∷ r → ((r : List ℕ) → bs ≡ k ∷ r → ⊥) → nat_eq b k ≡ false
isnt bs k b r e other = not_byte b k (λ is. other r (e ∙ ap (λ b. b ∷ r) is))

-- white space
white_is : (P : ℕ → Type 0) (b : ℕ) → P 32 → P 9 → P 10 → P 13 → is_white b ≡ true → P b
white_is P b p q r s h = go (nat_eq b 32) (nat_eq b 9) (nat_eq b 10) (nat_eq b 13) refl refl refl refl h
  where
    known : (k : ℕ) → nat_eq b k ≡ true → P k → P b
    known k e p = subst P (sym (same_nat b k e)) p

    go : (x y z w : Bool) → nat_eq b 32 ≡ x → nat_eq b 9 ≡ y → nat_eq b 10 ≡ z → nat_eq b 13 ≡ w → x || y || z || w ≡ true → P b
    go true y z w e f g i h = known 32 e p
    go false true z w e f g i h = known 9 f q
    go false false true w e f g i h = known 10 g r
    go false false false true e f g i h = known 13 i s
    go false false false false e f g i h = cc

pub none_at : (at : ℕ) (fs : List Level) (here : Here) (k : ℕ) (bs : List ℕ) → takes_value here ≡ true → nat_eq k 91 || nat_eq k 123 ≡ false → number_at (k ∷ bs) ≡ None → value_refusal at fs here k bs ≡ None
none_at at fs here k bs t o n = not_opening at fs here k bs t o ∙ ap (number_refusal at) n

pub white_none : (at : ℕ) (fs : List Level) (here : Here) (b : ℕ) (bs : List ℕ) → is_white b ≡ true → value_refusal at fs here b bs ≡ None
unfolding number_at
white_none at fs here b bs h = go (takes_value here) refl
  where
    go : (t : Bool) → takes_value here ≡ t → value_refusal at fs here b bs ≡ None
    go false e = no_value at fs here b bs e
    go true e = white_is (λ b. value_refusal at fs here b bs ≡ None) b (none_at at fs here 32 bs e refl refl) (none_at at fs here 9 bs e refl refl) (none_at at fs here 10 bs e refl refl) (none_at at fs here 13 bs e refl refl) h

white_stays : (fs : List Level) (here : Here) (b : ℕ) (other : Option (List Level × Here)) → is_white b ≡ true → cond (is_white b) (Some (fs, here)) other ≡ Some (fs, here)
white_stays fs here b other e = ap (λ w. cond w (Some (fs, here)) other) e

pub spaced_value : Spaced value
unfolding step
spaced_value fs b e = white_stays fs value b _ e

pub spaced_item : Spaced item_or_end
unfolding step
spaced_item fs b e = white_stays fs item_or_end b _ e

pub spaced_first : Spaced name_or_end
unfolding step
spaced_first fs b e = white_stays fs name_or_end b _ e

pub spaced_name : Spaced name
unfolding step
spaced_name fs b e = white_stays fs name b _ e

pub spaced_colon : Spaced colon
unfolding step
spaced_colon fs b e = white_stays fs colon b _ e

pub spaced_done : Spaced done
unfolding step
spaced_done fs b e = white_stays fs done b _ e

-- lists
pub item_alike : (at : ℕ) (fs : List Level) (bs : List ℕ) → NoWhite bs → ((r : List ℕ) → bs ≡ 93 ∷ r → ⊥) → refusal at fs item_or_end bs ≡ refusal at fs value bs
unfolding step
item_alike at fs bs space other = alike fs item_or_end value at bs refl refl refl (λ b r e. (rw (space b r e, isnt bs 93 b r e other) refl, refl))

pub item_end : (fs : List Level) → step (in_list ∷ fs) item_or_end 93 ≡ Some (fs, done)
unfolding step
item_end fs = refl

pub list_next : (fs : List Level) → step (in_list ∷ fs) done 44 ≡ Some (in_list ∷ fs, value)
unfolding step
list_next fs = refl

pub list_end : (fs : List Level) → step (in_list ∷ fs) done 93 ≡ Some (fs, done)
unfolding step
list_end fs = refl

pub list_stops : (at : ℕ) (fs : List Level) (bs : List ℕ) → NoWhite bs → ((r : List ℕ) → bs ≡ 44 ∷ r → ⊥) → ((r : List ℕ) → bs ≡ 93 ∷ r → ⊥) → refusal at (in_list ∷ fs) done bs ≡ Some (plain_refusal at bs)
unfolding step
list_stops at fs bs space comma bracket = nowhere (in_list ∷ fs) done at bs refl refl
    (λ b r e. (no_value at (in_list ∷ fs) done b r refl, rw (space b r e, isnt bs 44 b r e comma, isnt bs 93 b r e bracket) refl))

-- maps
pub first_alike : (at : ℕ) (fs : List Level) (bs : List ℕ) → NoWhite bs → ((r : List ℕ) → bs ≡ 125 ∷ r → ⊥) → refusal at fs name_or_end bs ≡ refusal at fs name bs
unfolding step
first_alike at fs bs space other = alike fs name_or_end name at bs refl refl refl (λ b r e. (rw (space b r e, isnt bs 125 b r e other) refl, refl))

pub first_end : (fs : List Level) → step (in_map ∷ fs) name_or_end 125 ≡ Some (fs, done)
unfolding step
first_end fs = refl

pub map_next : (fs : List Level) → step (in_map ∷ fs) done 44 ≡ Some (in_map ∷ fs, name)
unfolding step
map_next fs = refl

pub map_end : (fs : List Level) → step (in_map ∷ fs) done 125 ≡ Some (fs, done)
unfolding step
map_end fs = refl

pub map_stops : (at : ℕ) (fs : List Level) (bs : List ℕ) → NoWhite bs → ((r : List ℕ) → bs ≡ 44 ∷ r → ⊥) → ((r : List ℕ) → bs ≡ 125 ∷ r → ⊥) → refusal at (in_map ∷ fs) done bs ≡ Some (plain_refusal at bs)
unfolding step
map_stops at fs bs space comma brace = nowhere (in_map ∷ fs) done at bs refl refl
    (λ b r e. (no_value at (in_map ∷ fs) done b r refl, rw (space b r e, isnt bs 44 b r e comma, isnt bs 125 b r e brace) refl))

pub name_begins : (fs : List Level) → step fs name 34 ≡ Some (fs, string true plain)
unfolding step
name_begins fs = refl

pub colon_next : (fs : List Level) → step fs colon 58 ≡ Some (fs, value)
unfolding step
colon_next fs = refl

pub name_stops : (at : ℕ) (fs : List Level) (bs : List ℕ) → NoWhite bs → ((r : List ℕ) → bs ≡ 34 ∷ r → ⊥) → refusal at fs name bs ≡ Some (plain_refusal at bs)
unfolding step
name_stops at fs bs space other = nowhere fs name at bs refl refl (λ b r e. (no_value at fs name b r refl, rw (space b r e, isnt bs 34 b r e other) refl))

pub colon_stops : (at : ℕ) (fs : List Level) (bs : List ℕ) → NoWhite bs → ((r : List ℕ) → bs ≡ 58 ∷ r → ⊥) → refusal at fs colon bs ≡ Some (plain_refusal at bs)
unfolding step
colon_stops at fs bs space other = nowhere fs colon at bs refl refl (λ b r e. (no_value at fs colon b r refl, rw (space b r e, isnt bs 58 b r e other) refl))

-- values
pub none_begins : (at : ℕ) (fs : List Level) (bs : List ℕ) → (value_refusal at fs value 34 bs ≡ None) × (value_refusal at fs value 110 bs ≡ None) × (value_refusal at fs value 116 bs ≡ None) × (value_refusal at fs value 102 bs ≡ None)
unfolding number_at
none_begins at fs bs = (none_at at fs value 34 bs refl refl refl, none_at at fs value 110 bs refl refl refl, none_at at fs value 116 bs refl refl refl, none_at at fs value 102 bs refl refl refl)

module _ (c d : Cursor) (fs : List Level) (at : d.at ≡ c.at + 1) where
  hop : (gs : List Level) (there : Here) (b : ℕ) → left c ≡ b ∷ left d → value_refusal c.at fs value b (left d) ≡ None → step fs value b ≡ Some (gs, there) → ahead c fs value ≡ ahead d gs there
  hop gs there b e v s = ap (refusal c.at fs value) e ∙ goes c.at fs value b (left d) v s ∙ ap (λ n. refusal n gs there (left d)) (sym at)

  pub quote : left c ≡ 34 ∷ left d → ahead c fs value ≡ ahead d fs (string false plain)
  unfolding step
  quote e = hop fs (string false plain) 34 e (none_begins c.at fs (left d)).0 refl

  pub null : left c ≡ 110 ∷ left d → ahead c fs value ≡ ahead d fs (word_here (codes "ull"))
  unfolding step
  null e = hop fs (word (codes "ull")) 110 e (none_begins c.at fs (left d)).1 refl

  pub truth : left c ≡ 116 ∷ left d → ahead c fs value ≡ ahead d fs (word_here (codes "rue"))
  unfolding step
  truth e = hop fs (word (codes "rue")) 116 e (none_begins c.at fs (left d)).2 refl

  pub falsehood : left c ≡ 102 ∷ left d → ahead c fs value ≡ ahead d fs (word_here (codes "alse"))
  unfolding step
  falsehood e = hop fs (word (codes "alse")) 102 e (none_begins c.at fs (left d)).3 refl

  pub list_opens : length fs < 128 → left c ≡ 91 ∷ left d → ahead c fs value ≡ ahead d (in_list ∷ fs) item_or_end
  unfolding step value_refusal
  list_opens lt e = hop (in_list ∷ fs) item_or_end 91 e (ap (λ b. cond b None (Some (r.TooDeep c.at))) (lt-ltb (length fs) 128 lt)) refl

  pub map_opens : length fs < 128 → left c ≡ 123 ∷ left d → ahead c fs value ≡ ahead d (in_map ∷ fs) name_or_end
  unfolding step value_refusal
  map_opens lt e = hop (in_map ∷ fs) name_or_end 123 e (ap (λ b. cond b None (Some (r.TooDeep c.at))) (lt-ltb (length fs) 128 lt)) refl

pub deep_list : (c : Cursor) (fs : List Level) (bs : List ℕ) → 128 ≤ length fs → left c ≡ 91 ∷ bs → ahead c fs value ≡ Some (r.TooDeep c.at)
unfolding value_refusal
deep_list c fs bs le e = ap (refusal c.at fs value) e ∙ refused c.at fs value 91 bs (ap (λ b. cond b None (Some (r.TooDeep c.at))) (le-ltb (length fs) 128 le))

pub deep_map : (c : Cursor) (fs : List Level) (bs : List ℕ) → 128 ≤ length fs → left c ≡ 123 ∷ bs → ahead c fs value ≡ Some (r.TooDeep c.at)
unfolding value_refusal
deep_map c fs bs le e = ap (refusal c.at fs value) e ∙ refused c.at fs value 123 bs (ap (λ b. cond b None (Some (r.TooDeep c.at))) (le-ltb (length fs) 128 le))

-- no value begins here
pub record NoValue (bs : List ℕ) : Type 0 where
  pub space : NoWhite bs
  pub list : (r : List ℕ) → bs ≡ 91 ∷ r → ⊥
  pub map : (r : List ℕ) → bs ≡ 123 ∷ r → ⊥
  pub quote : (r : List ℕ) → bs ≡ 34 ∷ r → ⊥
  pub n : (r : List ℕ) → bs ≡ 110 ∷ r → ⊥
  pub t : (r : List ℕ) → bs ≡ 116 ∷ r → ⊥
  pub f : (r : List ℕ) → bs ≡ 102 ∷ r → ⊥
  pub number : (b : ℕ) (r : List ℕ) → bs ≡ b ∷ r → (is_digit b ≡ false) × (nat_eq b 45 ≡ false)

not_zero : (b : ℕ) → is_digit b ≡ false → nat_eq b 48 ≡ false
not_zero b d = not_byte b 48 (λ is. true≢false (sym (ap is_digit is) ∙ d))

no_number : (b : ℕ) (r : List ℕ) → is_digit b ≡ false → nat_eq b 45 ≡ false → number_at (b ∷ r) ≡ None
unfolding number_at
no_number b r d m = rw (m, not_zero b d, d) refl

pub value_stops : (at : ℕ) (fs : List Level) (bs : List ℕ) → NoValue bs → refusal at fs value bs ≡ Some (plain_refusal at bs)
unfolding step
value_stops at fs bs h = nowhere fs value at bs refl refl (λ b r e.
    let num = h.number b r e in (
      none_at at fs value b r refl (rw (isnt bs 91 b r e h.list, isnt bs 123 b r e h.map) refl) (no_number b r num.0 num.1),
      rw (h.space b r e, isnt bs 34 b r e h.quote, isnt bs 91 b r e h.list, isnt bs 123 b r e h.map, isnt bs 110 b r e h.n, isnt bs 116 b r e h.t, isnt bs 102 b r e h.f, num.1, not_zero b num.0, num.0) refl,
    ))

pub item_ends : (c d : Cursor) (fs : List Level) → left c ≡ 93 ∷ left d → d.at ≡ c.at + 1 → ahead c (in_list ∷ fs) item_or_end ≡ ahead d fs done
unfolding step number_at
item_ends c d fs e at =
    ap (refusal c.at (in_list ∷ fs) item_or_end) e ∙ goes c.at (in_list ∷ fs) item_or_end 93 (left d) (none_at c.at (in_list ∷ fs) item_or_end 93 (left d) refl refl refl) refl
    ∙ ap (λ n. refusal n fs done (left d)) (sym at)

-- the end
pub text_ends : (at : ℕ) (bs : List ℕ) → bs ≡ [] → refusal at [] done bs ≡ None
unfolding refusal
text_ends at bs e = ap (refusal at [] done) e

pub text_goes_on : (at : ℕ) (bs : List ℕ) (b : ℕ) (r : List ℕ) → NoWhite bs → bs ≡ b ∷ r → refusal at [] done bs ≡ Some (plain_refusal at bs)
unfolding step
text_goes_on at bs b r space e =
    ap (refusal at [] done) e ∙ stuck at [] done b r refl (passed (is_white b) (Some ([], done)) None (space b r e)) ∙ ap (λ bs. Some (plain_refusal at bs)) (sym e)

-- literals
pub word_goes : (at : ℕ) (fs : List Level) (c : ℕ) (cs bs : List ℕ) → refusal at fs (word_here (c ∷ cs)) (c ∷ bs) ≡ refusal (at + 1) fs (word_here cs) bs
unfolding step
word_goes at fs c [] bs = goes at fs (word (c ∷ [])) c bs (no_value at fs (word (c ∷ [])) c bs refl) (chosen (nat_eq c c) (Some (fs, done)) None (itself c))
  where
    itself : (c : ℕ) → nat_eq c c ≡ true
    itself c = search rules
word_goes at fs c (d ∷ ds) bs = goes at fs (word (c ∷ d ∷ ds)) c bs (no_value at fs (word (c ∷ d ∷ ds)) c bs refl) (chosen (nat_eq c c) (Some (fs, word (d ∷ ds))) None (itself c))
  where
    itself : (c : ℕ) → nat_eq c c ≡ true
    itself c = search rules

pub word_stops : (at : ℕ) (fs : List Level) (c : ℕ) (cs bs : List ℕ) → ((r : List ℕ) → bs ≡ c ∷ r → ⊥) → refusal at fs (word_here (c ∷ cs)) bs ≡ Some (plain_refusal at bs)
unfolding step
word_stops at fs c cs bs other = nowhere fs (word (c ∷ cs)) at bs refl refl (λ b r e. (no_value at fs (word (c ∷ cs)) b r refl, passed (nat_eq b c) _ None (isnt bs c b r e other)))

-- the stack
pub pushed : (fs gs : List Frame) (g : Frame) → gs ≡ fs ++ g ∷ [] → levels gs ≡ level_of g ∷ levels fs
pushed fs gs g e = ap levels e ∙ ap (map level_of) (reverse-append fs (g ∷ []))

length-levels : (fs : List Frame) → length (levels fs) ≡ length fs
length-levels fs = length-map (reverse fs) level_of ∙ length-reverse fs

pub deep : (v : Vec Frame Global) {n : ℕ} → n ≡ vec_len v → 128 ≤ n → 128 ≤ length (levels v.items)
deep v e h = let long : 128 ≤ length v.items = search rules in omega (arith, long, length-levels v.items)

pub room : (v : Vec Frame Global) {n : ℕ} → n ≡ vec_len v → n < 128 → length (levels v.items) < 128
room v e h = let short : length v.items < 128 = search rules in omega (arith, short, length-levels v.items)

pub neither : (a b : Bool) → a || b ≡ false → (a ≡ false) × (b ≡ false)
neither true b h = cc
neither false b h = (refl, h)
