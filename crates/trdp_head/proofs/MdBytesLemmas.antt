-- A written message data telegram is read back.
-- For `write_md` and its `put_head`.
-- By `TelegramBytesLemmas` for what all headers begin with, and each further field at its place.
use Rattle.std.proofs.Common.{◌≡◌, ℕ, ◌^◌, ◌<◌, ◌≤◌, ◌-◌, List, ◌++◌, length, take, drop}
use Rattle.std.proofs.Common.{replicate, subst, refl, ap, arith, ◌∙◌, length-append}
use Rattle.std.proofs.lemmas.List.{take_at, drop_at, take_all, length-replicate}
use Rattle.std.proofs.lemmas.Int.{to_z-of_z}
use Rattle.std.proofs.Math.Facts.{Fits-of_z, Fits-lt-pow}
use Rattle.std.specs.Int.{w32, cast_signed, cast_unsigned}
use Rattle.trdp_base.specs.Uris.{IsUri, before_zero, uri_field}
use Rattle.trdp_base.proofs.UriLemmas.{field_back, no_zero_before, length-before_zero}
use Rattle.trdp_head.specs.declared.md.MdHead.{MdHead}
use Rattle.trdp_head.specs.Fields.{field, be_bytes}
use Rattle.trdp_head.specs.MdHeads.{IsMdHead, md_prefix}
use Rattle.trdp_head.specs.IsMdTelegram.{IsMdTelegram}
use Rattle.trdp_head.specs.MdBytes.{md_head_bytes, md_bytes}
use Rattle.trdp_head.proofs.FieldByteLemmas.{be-be_bytes}
use Rattle.trdp_head.proofs.TelegramBytesLemmas.{part-telegram, field-telegram}
use Rattle.trdp_head.proofs.TelegramBytesLemmas.{IsTelegram-telegram_bytes}

-- what a field of 32 bytes holds is a URI
pub uri_held : (uri bytes : List ℕ) → before_zero bytes ≡ uri → length bytes ≡ 32 → IsUri uri
uri_held uri bytes e len =
    subst IsUri e (record {
      within = omega (arith, length-before_zero bytes, len);
      sound = no_zero_before bytes;
    })

length-uri_field : (uri : List ℕ) → length uri ≤ 32 → length (uri_field uri) ≡ 32
unfolding uri_field
length-uri_field uri within = length-append uri (replicate (32 - length uri) 0)
    ∙ omega (arith, length-replicate {A = ℕ} (32 - length uri) 0, within)

-- the two URIs of a header
uris : MdHead → List ℕ
uris head = uri_field head.source_uri ++ uri_field head.dest_uri

-- the status as a number of 32 bits
bits_of : MdHead → ℕ
bits_of head = cast_unsigned w32 head.status

length-uris : (head : MdHead) → IsMdHead head → length (uris head) ≡ 64
unfolding uris
length-uris head h =
    length-append (uri_field head.source_uri) (uri_field head.dest_uri)
    ∙ omega (
      arith,
      length-uri_field head.source_uri h.source_uri.within,
      length-uri_field head.dest_uri h.dest_uri.within,
    )

length-head : (head : MdHead) (n : ℕ) → IsMdHead head → length (md_head_bytes head n) ≡ 112
unfolding md_head_bytes be_bytes uris
length-head head n h = let uris_length = length-uris head h in omega (arith, uris_length)

field-status : (head : MdHead) (n : ℕ) → bits_of head < 256 ^ 4
    → field 24 4 (md_head_bytes head n) ≡ bits_of head
unfolding md_head_bytes be_bytes field bits_of
field-status head n h = be-be_bytes 4 (bits_of head) h

field-session : (head : MdHead) (n : ℕ) → head.session.0 < 256 ^ 16
    → field 28 16 (md_head_bytes head n) ≡ head.session.0
unfolding md_head_bytes be_bytes field
field-session head n h = be-be_bytes 16 head.session.0 h

field-timeout : (head : MdHead) (n : ℕ) → head.timeout < 256 ^ 4
    → field 44 4 (md_head_bytes head n) ≡ head.timeout
unfolding md_head_bytes be_bytes field
field-timeout head n h = be-be_bytes 4 head.timeout h

behind-timeout : (head : MdHead) (n : ℕ) → drop 48 (md_head_bytes head n) ≡ uris head
unfolding md_head_bytes be_bytes uris
behind-timeout head n = refl

part-source : (head : MdHead) (n : ℕ) → IsMdHead head
    → take 32 (drop 48 (md_head_bytes head n)) ≡ uri_field head.source_uri
unfolding uris
part-source head n h =
    ap (take 32) (behind-timeout head n)
    ∙ take_at (uri_field head.source_uri) (uri_field head.dest_uri)
    32 (length-uri_field head.source_uri h.source_uri.within)

behind-source : (head : MdHead) (n : ℕ) → drop 80 (md_head_bytes head n) ≡ drop 32 (uris head)
unfolding md_head_bytes be_bytes uris
behind-source head n = refl

part-dest : (head : MdHead) (n : ℕ) → IsMdHead head
    → take 32 (drop 80 (md_head_bytes head n)) ≡ uri_field head.dest_uri
unfolding uris
part-dest head n h =
    ap (take 32) (behind-source head n ∙ drop_at (uri_field head.source_uri)
    (uri_field head.dest_uri) 32 (length-uri_field head.source_uri h.source_uri.within))
    ∙ take_all 32
    (uri_field head.dest_uri) (omega (arith, length-uri_field head.dest_uri h.dest_uri.within))

-- what is written is read back
pub IsMdTelegram-md_bytes : (head : MdHead) (payload : List ℕ)
    → IsMdHead head → length payload ≤ 65388 → IsMdTelegram (md_bytes head payload) head payload
unfolding md_bytes md_head_bytes be_bytes bits_of
IsMdTelegram-md_bytes head payload h limit =
    let n : ℕ = length payload in
    let header : List ℕ = md_head_bytes head n in
    let len : length header ≡ 112 = length-head head n h in
    let more : List ℕ = be_bytes 4 (bits_of head) ++ be_bytes 16 head.session.0
    ++ be_bytes 4 head.timeout ++ uri_field head.source_uri ++ uri_field head.dest_uri in
    record {
      telegram = IsTelegram-telegram_bytes 116 65504 (md_prefix head)
          more header payload refl (omega (arith, len)) h.prefix (omega arith) (omega arith);
      status = ap (cast_signed w32) (field-telegram 24 4 header payload (omega (arith, len))
          ∙ field-status head n (Fits-lt-pow (Fits-of_z h.status)))
          ∙ to_z-of_z w32 head.status h.status;
      session = field-telegram 28 16 header payload (omega (arith, len))
          ∙ field-session head n h.session;
      timeout = field-telegram 44 4 header payload (omega (arith, len))
          ∙ field-timeout head n h.timeout;
      source_uri = ap before_zero (part-telegram 48 32 header payload (omega (arith, len))
          ∙ part-source head n h) ∙ field_back head.source_uri h.source_uri.sound;
      dest_uri = ap before_zero (part-telegram 80 32 header payload (omega (arith, len))
          ∙ part-dest head n h) ∙ field_back head.dest_uri h.dest_uri.sound;
    }
