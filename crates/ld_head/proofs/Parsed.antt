-- What httparse's answer says of a whole block.
use Rattle.std.proofs.Common.{◌≡◌, ◌≢◌, ℕ, ◌≤◌, ◌<◌, ◌⊎◌, inl, inr, List, [], ◌++◌, length, map, drop, Option, Some, sym, subst, ap, ◌∙◌, arith}
use Rattle.std.specs.Prelude.{option_copied}
use Rattle.std.specs.Option.{unwrap_or}
use Rattle.std.specs.Borrow.{Bor}
use Rattle.std.proofs.lemmas.List.{length-map, append-nil}
use Rattle.std.proofs.Math.ListN.{drop_of_length-le}
use Rattle.httparse.specs.declared.borrowed.Request.{Request}
use Rattle.httparse.specs.Grammar.{RequestHead, print_request, ReadsRequest, HasNoRequest}
use Rattle.httparse.specs.Borrowed.{header_parts, HoldsRequest}
use Rattle.httparse.specs.Spans.{name_and_value, RequestOverflows}
use Rattle.httparse.proofs.GrammarLemmas.{request_unique}
use Rattle.ld_head.specs.Heads.{Parts, parts, Verdict, judged, Says, head, IsHead, IsNoHead}

-- the parser waits for more
pub partial_is_none : (block : List ℕ) → HasNoRequest block → IsNoHead block
partial_is_none block none h is = none h [] is.reads

-- the parser refuses, with room for 64 fields
pub error_is_none : (block : List ℕ) → RequestOverflows 64 block → IsNoHead block
error_is_none block over h is =
    let many = over [] h [] (subst (λ b. ReadsRequest b h []) (sym (append-nil block)) is.reads) in
    let few = is.few in
    absurd (omega arith)

module _ (block : List ℕ) (len : ℕ) (r : Request) (h : RequestHead) (holds : HoldsRequest block len r h) where
  field_count : length h.fields ≡ length r.headers.now
  field_count = sym (length-map h.fields name_and_value) ∙ (ap length (sym holds.fields) ∙ length-map r.headers.now header_parts)

  -- a whole block's head is read to its end
  whole : drop len block ≡ [] → length block ≡ len
  whole none =
      ap length (holds.reads.1 ∙ ap (λ rest. print_request h ++ rest) none)
      ∙ (ap length (append-nil (print_request h)) ∙ sym holds.len_is)

  -- the head ends before the block does, or has more fields
  pub other_is_none : (len ≢ length block) ⊎ (64 < length r.headers.now) → IsNoHead block
  other_is_none (inl short) k is = short (sym (whole (sym (request_unique block k h [] (drop len block) is.reads holds.reads).1)))
  other_is_none (inr more) k is =
      let same = (request_unique block k h [] (drop len block) is.reads holds.reads).0 in
      let few : length h.fields ≤ 64 = subst (λ x. length x.fields ≤ 64) same is.few in
      let count = field_count in
      absurd (omega arith)

  pub read_whole : len ≡ length block → length r.headers.now ≤ 64 → IsHead block h
  read_whole at_end few = record {
    reads = (holds.reads.0, holds.reads.1 ∙ ap (λ rest. print_request h ++ rest) (drop_of_length-le block (subst (λ n. length block ≤ n) (sym at_end) (omega arith))));
    few = let count = field_count in omega arith;
  }

  copied : (o : Option (Bor (List ℕ))) (m : Bor (List ℕ)) (xs : List ℕ) → o ≡ Some m → option_copied o ≡ Some xs → m.now ≡ xs
  copied o m xs is shows = ap (λ s. unwrap_or s []) (sym (ap option_copied is) ∙ shows)

  -- what the parser shows are the parts of the head
  pub parts_are : (m p : Bor (List ℕ)) (n : ℕ) → r.method ≡ Some m → r.path ≡ Some p → r.version ≡ Some n
      → ◌≡◌ {A = Parts} (record { method = m.now; target = p.now; minor = n; fields = map header_parts r.headers.now }) (parts h)
  parts_are m p n im ip iv =
      let method = copied r.method m h.method im holds.method in
      let target = copied r.path p h.target ip holds.path in
      let minor : n ≡ h.minor = ap (λ s. unwrap_or s 0) (sym iv ∙ holds.version) in
      λ i. record { method = method i; target = target i; minor = minor i; fields = holds.fields i }

-- the verdict on the parts of the head is what the block says
pub says : (block : List ℕ) (h : RequestHead) (p : Parts) (v : Verdict) → IsHead block h → p ≡ parts h → v ≡ judged p → Says block v
says block h p v is e j = subst (Says block) (sym (j ∙ ap judged e)) (head h is)
