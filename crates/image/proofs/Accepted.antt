-- An image is accepted exactly when it is made up as the format has it.
use Rattle.std.proofs.Common.{◌≡◌, ℕ, zero, suc, ◌≤◌, Bool, true, false, cond, List, [], ◌∷◌, ◌++◌, length, drop, is_ok, IfOk, Ok, Err, Decides, Result, sym, refl, ap, ◌∙◌, append_assoc, arith}
use Rattle.std.specs.List.{flat_map, AllByRecursion}
use Rattle.image.specs.declared.ImageFault.{ImageFault}
use Rattle.image.specs.declared.ImageFault.TheVariants.{NoImage}
use Rattle.image.specs.declared.LoadRefused.{LoadRefused}
use Rattle.image.specs.declared.Spot.{Spot}
use Rattle.image.specs.Faults.{raised, refused_at}
use Rattle.image.specs.Records.{Asked, read}
use Rattle.image.specs.Parsed.{ended, after, read_from, read_all, no_image, is_end, whole, unless_refused, parsed, says}
use Rattle.image.specs.Format.{Content, framed, end_framed, WellFormed}
use Rattle.image.proofs.Reading.{read_all_next, says_cons}
use Rattle.image.proofs.Frames.{Bytes, Contains, Frames, tail_bytes, read_frames, record_read}

-- bytes that are records and the end
pub record Forms (bytes : List ℕ) : Type 0 where
  pub contents : List (List ℕ)
  pub each : AllByRecursion Content contents
  pub stands : bytes ≡ flat_map framed contents ++ end_framed

forms_end : (spot : Spot) (bytes content rest : List ℕ) → bytes ≡ framed content ++ rest → content ≡ 4 ∷ [] → says (whole (ended spot rest)) ≡ Ok tt → Forms bytes
forms_end spot bytes content [] frame is fine = record { contents = []; each = tt; stands = frame ∙ ap (λ content. framed content ++ []) is }
forms_end spot bytes content (b ∷ rest) frame is fine = grind arith

forms_more : (bytes content rest : List ℕ) → bytes ≡ framed content ++ rest → Content content → Forms rest → Forms bytes
forms_more bytes content rest frame c g =
    record {
      contents = content ∷ g.contents;
      each = (c, g.each);
      stands = frame ∙ ap (λ xs. framed content ++ xs) g.stands ∙ sym (append_assoc (framed content) (flat_map framed g.contents) end_framed);
    }

-- one record of what is accepted
forms_of : (fuel : ℕ) (spot : Spot) (x : Asked) (last : Bool) (bytes content rest : List ℕ) → bytes ≡ framed content ++ rest → Contains last content
    → (says (whole (read_from fuel spot rest)) ≡ Ok tt → Forms rest)
    → (before : Spot) → says (whole (cond last (ended spot rest) (Ok (before, x) ∷ read_from fuel spot rest))) ≡ Ok tt → Forms bytes
forms_of fuel spot x true bytes content rest frame kind more before fine = forms_end spot bytes content rest frame kind fine
forms_of fuel spot x false bytes content rest frame kind more before fine = forms_more bytes content rest frame kind (more (sym (says_cons _ (whole (read_from fuel spot rest))) ∙ fine))

forms_after : (fuel : ℕ) (spot : Spot) (bytes : List ℕ) (r : Result (Asked × List ℕ) ImageFault) → IfOk r (Frames bytes)
    → ((next : Spot) (rest : List ℕ) → Bytes rest → says (whole (read_from fuel next rest)) ≡ Ok tt → Forms rest)
    → says (whole (after (read_from fuel) spot (length bytes) r)) ≡ Ok tt → Forms bytes
forms_after fuel spot bytes (Err fault) f more fine = grind arith
forms_after fuel spot bytes (Ok (x, rest)) f more fine = forms_of fuel _ x (is_end x) bytes f.content rest f.frame f.kind (more _ rest f.fit) spot fine

-- what is accepted is made up of records
accepted_forms : (fuel : ℕ) (spot : Spot) (bytes : List ℕ) → Bytes bytes → says (whole (read_from fuel spot bytes)) ≡ Ok tt → Forms bytes
accepted_forms zero spot bytes fit is = grind arith
accepted_forms (suc fuel) spot bytes fit is = forms_after fuel spot bytes (read bytes) (read_frames bytes fit) (λ next rest fits. accepted_forms fuel next rest fits) is

-- what is made up of records is accepted
forms_accepted : (contents : List (List ℕ)) (spot : Spot) → AllByRecursion Content contents → says (whole (read_all spot (flat_map framed contents ++ end_framed))) ≡ Ok tt
unfolding read_all
forms_accepted [] spot each = refl
forms_accepted (content ∷ contents) spot (one, each) =
    let rest = flat_map framed contents ++ end_framed in
    let r = record_read content rest one in
    ap (λ bytes. says (whole (read_all spot bytes))) (append_assoc (framed content) (flat_map framed contents) end_framed) ∙
    ap (λ xs. says (whole xs)) (read_all_next spot (framed content ++ rest) rest r.0 r.2 r.1) ∙
    says_cons _ (whole (read_all _ rest)) ∙
    forms_accepted contents _ each

-- the first byte, and the rest
record Begins (image : List ℕ) : Type 0 where
  version : image ≡ 1 ∷ drop 1 image
  most : length image ≤ 1048576

begins_with : (image : List ℕ) → no_image image ≡ false → Begins image
begins_with [] good = grind arith
begins_with (b ∷ bytes) good = record { version = grind arith; most = grind arith }

drop_fit : (image : List ℕ) → Bytes image → Bytes (drop 1 image)
drop_fit [] fit = fit
drop_fit (b ∷ bytes) fit = tail_bytes b bytes fit

abbrev first : Spot
first = record { «record» = 0; place = 1 }

first_said : Bool → List ℕ → Result (Unit {0}) LoadRefused
first_said bad image = says (unless_refused (cond bad (Err (refused_at (record { «record» = 0; place = 0 }) (raised NoImage))) (Ok (read_all first (drop 1 image)))))

well_formed : (image : List ℕ) (bad : Bool) → no_image image ≡ bad → Bytes image → first_said bad image ≡ Ok tt → WellFormed image
unfolding first_said read_all
well_formed image true bad fit is = grind arith
well_formed image false good fit is =
    let start = begins_with image good in
    let forms = accepted_forms (length (drop 1 image)) first (drop 1 image) (drop_fit image fit) is in
    record { contents = forms.contents; each = forms.each; whole = start.version ∙ ap (λ xs. 1 ∷ xs) forms.stands; most = start.most }

accepts_well_formed : (image : List ℕ) → WellFormed image → says (parsed image) ≡ Ok tt
unfolding parsed first_said
accepts_well_formed image w =
    let version = w.whole in
    let most = w.most in
    let good : no_image image ≡ false = grind arith in
    ap (λ bad. first_said bad image) good ∙ ap (λ xs. says (whole (read_all first (drop 1 xs)))) w.whole ∙ forms_accepted w.contents first w.each

ok_is : {E : Type 0} (r : Result (Unit {0}) E) → is_ok r ≡ true → r ≡ Ok tt
ok_is (Ok _) is = refl
ok_is (Err e) is = grind arith

-- exactly the well-formed images are accepted
pub accepts_exactly : (image : List ℕ) (r : Result (Unit {0}) LoadRefused) → Bytes image → r ≡ says (parsed image) → Decides (is_ok r) (WellFormed image)
unfolding parsed first_said
accepts_exactly image r fit is = ((λ ok. well_formed image (no_image image) refl fit (sym is ∙ ok_is r ok)), (λ w. ap is_ok (is ∙ accepts_well_formed image w)))
