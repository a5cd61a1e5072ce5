-- One item of which it is known what it is.
use Rattle.std.proofs.Common.{◌≡◌, ℕ, ◌<◌, Bool, true, false, cond, not, List, [], ◌∷◌, length, drop, map, Option, Some, None, Ok, Err, refl, sym, ap, ◌∙◌, arith}
use Rattle.std.specs.Prelude.{Result, ◌-◌, ◌&&◌, ◌==◌, nat_le}
use Rattle.std.proofs.lemmas.Bool.{and_parts, eqb-true}
use Rattle.std.proofs.lemmas.List.{length-map}
use Rattle.std.proofs.lemmas.Bool.Decides.{nat_tests}
use Rattle.basics.specs.declared.kinds.Kind.TheVariants.{BadText, TooDeep, Unfinished}
use Rattle.basics.specs.declared.fault.Spot.{Spot}
use Rattle.basics.specs.declared.fault.Stop.{Stop}
use Rattle.basics.specs.declared.fault.Stop.TheVariants.{At, NoMemory}
use Rattle.basics.specs.Reading.{Fails, IsStop}
use Rattle.markup_rules.specs.Bytes.{starts_name}
use Rattle.markup_rules.specs.Faults.{Context, is_allowed_at, lacks_end, spot}
use Rattle.markup_rules.specs.Outcome.{Frame, State, changed, context_of, step_by}
use Rattle.markup_rules.specs.Reading.{Entry, Markup, Opening, bad, markup_of, item_at, opens}
use Rattle.markup.specs.Openings.{opened_as, opening_at}
use Rattle.markup.specs.Steps.{step_at, taken}
use Rattle.markup.proofs.Openings.{opening_cut, opening_none}

prefix_is : (b : ℕ) (bytes : List ℕ) → ((b == 60) && starts_name bytes) ≡ true → (b ∷ bytes ≡ 60 ∷ bytes) × (starts_name bytes ≡ true)
prefix_is b bytes e =
    let parts = and_parts (b == 60) (starts_name bytes) e in
    (ap (λ (c : ℕ). c ∷ bytes) (eqb-true b 60 parts.0), parts.1)

pub opens_is : (bytes : List ℕ) → opens bytes ≡ true → (bytes ≡ 60 ∷ drop 1 bytes) × (starts_name (drop 1 bytes) ≡ true)
opens_is [] e = absurd cc
opens_is (b ∷ bytes) e = prefix_is b bytes e

abbrev entry_of : List ℕ → Entry
entry_of bytes = record { left = length bytes; opening = opens bytes; item = (item_at bytes).0 }

abbrev tests : ℕ → State → List ℕ → Bool → Bool → Markup → Option Spot
tests total s bytes deep lacks m =
    cond deep (Some (spot TooDeep (total - length bytes))) (cond lacks (Some (spot Unfinished total)) (cond (is_allowed_at (context_of s) m) None (Some (spot BadText (total - length bytes)))))

allowed_step : (total : ℕ) (s : State) (bytes : List ℕ) (allowed : Bool) → step_by total (entry_of bytes) s (cond allowed None (Some (spot BadText (total - length bytes))))
    ≡ cond allowed (Ok (changed (total - length bytes) (markup_of (item_at bytes).0) s)) (Err (spot BadText (total - length bytes)))
allowed_step total s bytes true = refl
allowed_step total s bytes false = refl

-- not too deep
abbrev IsShallow : State → Type 0
IsShallow s = nat_le 64 (length (map (λ (f : Frame). f.name) s.frames)) ≡ false

deep_last : (opening deep : Bool) → deep ≡ false → (opening && deep) ≡ false
deep_last true deep e = e
deep_last false deep e = refl

pub whole_step : (total : ℕ) (s : State) (bytes : List ℕ) (m : Markup) → (opens bytes && nat_le 64 (length (map (λ (f : Frame). f.name) s.frames))) ≡ false
    → lacks_end (context_of s) (item_at bytes).0 ≡ false → markup_of (item_at bytes).0 ≡ m → step_at total bytes s ≡ taken (total - length bytes) m s
whole_step total s bytes m shallow lacks means =
    let found = markup_of (item_at bytes).0 in
    ap (λ deep. step_by total (entry_of bytes) s (tests total s bytes deep (lacks_end (context_of s) (item_at bytes).0) found)) shallow ∙
    (ap (λ l. step_by total (entry_of bytes) s (tests total s bytes false l found)) lacks ∙
    (allowed_step total s bytes (is_allowed_at (context_of s) found) ∙ ap (λ m. taken (total - length bytes) m s) means))

pub no_opening_step : (total : ℕ) (s : State) (bytes : List ℕ) (m : Markup) → opens bytes ≡ false → lacks_end (context_of s) (item_at bytes).0 ≡ false → markup_of (item_at bytes).0 ≡ m
    → step_at total bytes s ≡ taken (total - length bytes) m s
no_opening_step total s bytes m none lacks means =
    whole_step total s bytes m (ap (λ b. b && nat_le 64 (length (map (λ (f : Frame). f.name) s.frames))) none) lacks means

shallow_is : (s : State) → length s.frames < 64 → IsShallow s
shallow_is s few = rw (length-map s.frames (λ (f : Frame). f.name)) (fewer (length s.frames) few)
  where
    fewer : (n : ℕ) → n < 64 → nat_le 64 n ≡ false
    fewer n few = grind (arith, nat_tests)

pub opened_step : (total : ℕ) (s : State) (bytes : List ℕ) (m : Markup) (rest : List ℕ) → opens bytes ≡ true → length s.frames < 64 → opening_at (drop 1 bytes) ≡ Some (m, rest)
    → (step_at total bytes s ≡ taken (total - length bytes) m s) × (rest ≡ (item_at bytes).1)
opened_step total s bytes m rest opening few found =
    let cut = opening_cut (drop 1 bytes) m rest found in
    let is = (opens_is bytes opening).0 in (
      whole_step total s bytes m (deep_last (opens bytes) _ (shallow_is s few)) (ap (λ bs. lacks_end (context_of s) (item_at bs).0) is ∙ cut.ended (context_of s)) (ap (λ bs. markup_of (item_at bs).0) is ∙ cut.markup),
      sym (ap (λ bs. (item_at bs).1) is ∙ cut.follows),
    )

pub bad_step : (total : ℕ) (s : State) (bytes : List ℕ) → opens bytes ≡ true → length s.frames < 64 → opening_at (drop 1 bytes) ≡ None → lacks_end (context_of s) (item_at bytes).0 ≡ false
    → step_at total bytes s ≡ Err (spot BadText (total - length bytes))
bad_step total s bytes opening few none lacks =
    let is = opens_is bytes opening in
    whole_step total s bytes bad (deep_last (opens bytes) _ (shallow_is s few)) lacks (ap (λ bs. markup_of (item_at bs).0) is.0 ∙ opening_none (drop 1 bytes) is.1 none)

pub fails_with : {Y : Type 0} (stop : Stop) (fault : Spot) (reading : Result Y Spot) → IsStop stop fault → reading ≡ Err fault → Fails stop reading
fails_with NoMemory fault reading is e = tt
fails_with (At found) fault reading is e = e ∙ ap (λ (f : Spot). Err f) (sym is)

pub taken_is : (at : ℕ) (m : Markup) (s : State) → is_allowed_at (context_of s) m ≡ true → taken at m s ≡ Ok (changed at m s)
taken_is at m s allowed = rw allowed refl

pub refused_is : (at : ℕ) (m : Markup) (s : State) → is_allowed_at (context_of s) m ≡ false → taken at m s ≡ Err (spot BadText at)
refused_is at m s allowed = rw allowed refl

pub few_frames : (s : State) (context : Context) (n : ℕ) → context_of s ≡ context → n ≡ length context.names → n < 64 → length s.frames < 64
few_frames s context n e is few = omega (arith, is, few, length-map s.frames (λ (f : Frame). f.name), ap (λ (c : Context). length c.names) e)

pub not_rooted : (context : Context) (opening : Opening) (slash : Bool) → is_allowed_at context (opened_as opening slash) ≡ not context.rooted
not_rooted context opening true = refl
not_rooted context opening false = refl
