-- One record, as the format has it and as it is read.
use Rattle.std.proofs.Common.{◌≡◌, ℕ, suc, ◌+◌, ◌*◌, ◌/◌, ◌%◌, ◌<◌, ◌≤◌, Bool, true, false, List, [], ◌∷◌, ◌++◌, length, get_or, take, drop, IfOk, MatchResult, Ok, Err, Result, sym, refl, ap, ◌∙◌, subst, arith, w8, Fits, nat_eq, nat_lt}
use Rattle.std.proofs.lemmas.List.{length-take-le, length-append, take-append-drop, take_at, drop_at, get_or-drop}
use Rattle.std.proofs.lemmas.Bool.{cond_both, cond-false, ltb-false, le-ltb}
use Rattle.image.specs.declared.ImageFault.{ImageFault}
use Rattle.image.specs.Records.{Asked, byte_at, of_kind, of_content, before, of_size, read}
use Rattle.image.specs.Format.{kind_allows, Content, framed}
use Rattle.image.specs.Parsed.{is_end}

abbrev pub Bytes : List ℕ → Type 0
Bytes bytes = (i : ℕ) → Fits w8 (get_or bytes i 0)

pub tail_bytes : (b : ℕ) (bytes : List ℕ) → Bytes (b ∷ bytes) → Bytes bytes
tail_bytes b bytes fit i = fit (suc i)

drop_bytes : (n : ℕ) (bytes : List ℕ) → Bytes bytes → Bytes (drop n bytes)
drop_bytes n bytes fit i = subst (λ b. Fits w8 b) (sym (get_or-drop n bytes i 0)) (fit (n + i))

-- the content of a record that was read: that of the end, or an allowed one
abbrev pub Contains : Bool → List ℕ → Type 0
Contains true content = content ≡ 4 ∷ []
Contains false content = Content content

-- a record that was read stands framed before the bytes behind it
pub record Frames (bytes : List ℕ) (x : Asked × List ℕ) : Type 0 where
  pub content : List ℕ
  pub frame : bytes ≡ framed content ++ x.1
  pub kind : Contains (is_end x.0) content
  pub fit : Bytes x.1

-- what a kind and a length say of the record that is read of them
abbrev Tells : ℕ → ℕ → Bool → Type 0
Tells kind size true = (kind ≡ 4) × (size ≡ 1)
Tells kind size false = kind_allows kind size ≡ true

kind_tells : (content : List ℕ) (size kind : ℕ) → IfOk (of_kind content size kind) (λ r. Tells kind size (is_end r))
kind_tells content size kind = grind arith

-- a list of one element
single : (xs : List ℕ) (x : ℕ) → length xs ≡ 1 → get_or xs 0 0 ≡ x → xs ≡ x ∷ []
single [] x long is = grind arith
single (y ∷ []) x long is = grind arith
single (y ∷ (z ∷ zs)) x long is = grind arith

contains : (last : Bool) (content : List ℕ) → length content < 65536 → Tells (byte_at content 0) (length content) last → Contains last content
contains true content short (four, one) = single content 4 one four
contains false content short allows = record { allowed = allows; short = short }

-- a length, as many bytes, and the rest
frame_at : (high low : ℕ) (bytes content rest : List ℕ) → high < 256 → low < 256 → length content ≡ high * 256 + low → content ++ rest ≡ bytes → high ∷ (low ∷ bytes) ≡ framed content ++ rest
frame_at high low bytes content rest h l long is =
    let first : high ≡ length content / 256 = omega arith in
    let second : low ≡ length content % 256 = omega arith in
    grind arith

frames_before : (bytes content rest : List ℕ) (r : Result Asked ImageFault) → length content < 65536 → bytes ≡ framed content ++ rest → Bytes rest → IfOk r (λ r. Tells (byte_at content 0) (length content) (is_end r)) → IfOk (before rest r) (Frames bytes)
frames_before bytes content rest (Ok r) short frame fit tells = record { content = content; frame = frame; kind = contains (is_end r) content short tells; fit = fit }
frames_before bytes content rest (Err fault) short frame fit tells = tt

frames_of_size : (high low : ℕ) (bytes : List ℕ) → high < 256 → low < 256 → Bytes bytes → IfOk (of_size (high * 256 + low) bytes) (Frames (high ∷ (low ∷ bytes)))
frames_of_size high low bytes h l fit =
    let size = high * 256 + low in
    let content = take size bytes in
    cond_both (nat_lt (length bytes) size) _ _ (λ r. IfOk r (Frames (high ∷ (low ∷ bytes)))) (λ _. tt)
    (λ room. cond_both (nat_eq (length content) 0) _ _ (λ r. IfOk (before (drop size bytes) r) (Frames (high ∷ (low ∷ bytes)))) (λ _. tt)
    (λ _.
    let long = length-take-le size bytes (ltb-false (length bytes) size room) in
    frames_before _ content (drop size bytes) _ (omega arith) (frame_at high low bytes content _ h l long (take-append-drop size bytes)) (drop_bytes size bytes fit) (kind_tells content (length content) (byte_at content 0))))

pub read_frames : (bytes : List ℕ) → Bytes bytes → IfOk (read bytes) (Frames bytes)
read_frames [] fit = tt
read_frames (b ∷ []) fit = tt
read_frames (high ∷ (low ∷ bytes)) fit = frames_of_size high low bytes (omega (arith, (fit 0).fits)) (omega (arith, (fit 1).fits)) (tail_bytes low bytes (tail_bytes high (low ∷ bytes) fit))

-- a framed content is read, up to what follows it
framed_read : (content rest : List ℕ) → read (framed content ++ rest) ≡ before rest (of_content content)
framed_read content rest =
    let size : length content / 256 * 256 + length content % 256 ≡ length content = omega arith in
    let room : length content ≤ length (content ++ rest) = simp length-append (omega arith) in
    ap (λ n. of_size n (content ++ rest)) size ∙
    cond-false _ _ _ (le-ltb (length (content ++ rest)) (length content) room) ∙
    ap (λ xs. before xs (of_content (take (length content) (content ++ rest)))) (drop_at content rest (length content) refl) ∙
    ap (λ xs. before rest (of_content xs)) (take_at content rest (length content) refl)

-- a kind that allows a length is read
kind_read : (content : List ℕ) (size kind : ℕ) → kind_allows kind size ≡ true → MatchResult (of_kind content size kind) (λ r. is_end r ≡ false) (λ _. ⊥)
kind_read content size kind allows = grind arith

found : {T E : Type 0} (P : T → Type 0) (r : Result T E) → MatchResult r P (λ _. ⊥) → (x : T) × (r ≡ Ok x) × P x
found P (Ok x) h = (x, refl, h)
found P (Err e) h = absurd h

-- no kind allows a content of no bytes
some_content : (content : List ℕ) → Content content → nat_eq (length content) 0 ≡ false
some_content [] c = let z = c.allowed in grind arith
some_content (x ∷ xs) c = grind arith

pub record_read : (content rest : List ℕ) → Content content → (r : Asked) × (Ok (r, rest) ≡ read (framed content ++ rest)) × (is_end r ≡ false)
record_read content rest c =
    let kind = found _ _ (kind_read content (length content) (byte_at content 0) c.allowed) in
    (kind.0, sym (framed_read content rest ∙ ap (before rest) (cond-false _ _ _ (some_content content c) ∙ kind.1)), kind.2)
