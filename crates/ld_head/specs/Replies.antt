-- The text of a reply (RFC 9112, sections 4 to 6; the fields of RFC 9110, sections 7.6.1, 8.3, 8.6 and 10.2.1). `LD-Request`
-- and `LD-Version`, and the order of the fields, are the project's own.
use Rattle.std.specs.Prelude.{ℕ, Bool, true, false, not, List, [], ◌∷◌, ◌++◌, length, Option, Some, None, if◌then◌else◌, ◌==◌, codes}
use Rattle.std.specs.Fmt.{decimal}
use Rattle.ld_head.specs.declared.reply.Media.{Media}
use Rattle.ld_head.specs.declared.reply.Media.TheVariants.{LdJson, Json}
use Rattle.ld_head.specs.declared.reply.Reply.{Reply}

-- lines end in CR LF
abbrev pub line : List ℕ → List ℕ
line text = text ++ 13 ∷ 10 ∷ []

-- the phrase of a status that this server gives (RFC 9110, section 15; RFC 6585, section 5); of another one none, which
-- RFC 9112, section 4 allows
abbrev pub phrase : ℕ → List ℕ
phrase status =
    if status == 200 then codes "OK"
    else (if status == 400 then codes "Bad Request"
    else (if status == 404 then codes "Not Found"
    else (if status == 405 then codes "Method Not Allowed"
    else (if status == 409 then codes "Conflict"
    else (if status == 411 then codes "Length Required"
    else (if status == 413 then codes "Content Too Large"
    else (if status == 417 then codes "Expectation Failed"
    else (if status == 422 then codes "Unprocessable Content"
    else (if status == 431 then codes "Request Header Fields Too Large"
    else (if status == 500 then codes "Internal Server Error"
    else (if status == 502 then codes "Bad Gateway"
    else (if status == 503 then codes "Service Unavailable"
    else []))))))))))))

-- RFC 9112, section 4
abbrev pub status_line : ℕ → List ℕ
status_line status = line (codes "HTTP/1.1 " ++ decimal status ++ 32 ∷ [] ++ phrase status)

-- RFC 9112, section 5
abbrev pub field : List ℕ → List ℕ → List ℕ
field name value = line (name ++ codes ": " ++ value)

abbrev pub media_text : Media → List ℕ
media_text LdJson = codes "application/ld+json"
media_text Json = codes "application/json"

-- the request's number and the version that it was answered at
abbrev pub request_fields : Option (ℕ × ℕ) → List ℕ
request_fields None = []
request_fields (Some f) = field (codes "LD-Request") (decimal f.0) ++ field (codes "LD-Version") (decimal f.1)

abbrev pub text_if : Bool → List ℕ → List ℕ
text_if true text = text
text_if false text = []

-- all that comes before the body; the length is that of the body, also where that is left out
abbrev pub head_text : Reply → List ℕ
head_text r =
    status_line r.status
    ++ field (codes "Content-Type") (media_text r.media)
    ++ field (codes "Content-Length") (decimal (length r.body))
    ++ request_fields r.fields
    ++ text_if r.allow (field (codes "Allow") (codes "POST"))
    ++ text_if r.close (field (codes "Connection") (codes "close"))
    ++ line []

-- a reply to HEAD is its head alone (RFC 9110, section 9.3.2)
abbrev pub reply_text : Reply → List ℕ
reply_text r = head_text r ++ text_if (not r.head_alone) r.body

-- the interim text (RFC 9110, section 15.2.1)
abbrev pub interim_text : List ℕ
interim_text = line (codes "HTTP/1.1 100 Continue") ++ line []
