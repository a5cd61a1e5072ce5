-- What joining the steps to the outlines answers.
use Rattle.std.proofs.Common.{◌≡◌, ℕ, ◌<◌, List, length, get_or, Result, Ok, sym, ◌∙◌, ap, subst}
use Rattle.std.proofs.lemmas.List.{get_or_default}
use Rattle.basics.specs.Reading.{◌>>=◌}
use Rattle.basics.specs.declared.fault.Fault.{Fault}
use Rattle.source_files.specs.Stops.{StopsBy}
use Rattle.source_files.specs.declared.stop.ReadStop.{ReadStop}
use Rattle.source_files.specs.declared.stop.ReadStop.TheVariants.{NoMemory, ReadFault, Refused}
use Rattle.font_project.specs.Flats.{AreFlatSources}
use Rattle.font_project.specs.Components.{have_bases}
use Rattle.font_project.specs.Fonts.{AreOutlined, default_drawn, default_outlined, outlined_of}
use Rattle.font_project.specs.Numbers.{default_first}
use Rattle.font_project.specs.Outlining.{are_flat, outlined_sources}
use Rattle.font_project.specs.Resolving.{are_resolved}
use Rattle.font_project.specs.Shapes.{have_shapes}
use Rattle.font_project.specs.Sizes.{are_few}
use Rattle.font_project.specs.declared.outlined.OutlinedSource.{OutlinedSource}
use Rattle.font_project.specs.Making.{StopsWith}
use Rattle.font_project.specs.declared.drawn.DrawnSource.{DrawnSource}
use Rattle.font_project.specs.declared.flat.FlatSource.{FlatSource}

-- a stop of the steps is one of the whole
pub stops_with : (names : List (List ℕ)) (default : ℕ) (drawn : List DrawnSource) (flats : List FlatSource) (stop : ReadStop) → AreFlatSources drawn flats → StopsBy stop (outlined_of names default drawn flats)
    → StopsWith (AreOutlined names default drawn) stop
stops_with names default drawn flats (Refused fault) flat stops = (flats, flat, sym stops)
stops_with names default drawn flats (ReadFault path) flat stops = tt
stops_with names default drawn flats NoMemory flat stops = tt

-- a step that passes, and what comes after it
pub after : {A B F : Type 0} (step : Result A F) (next : A → Result B F) (x : A) (y : Result B F) → step ≡ Ok x → next x ≡ y → (step >>= next) ≡ y
after step next x y is rest = ap (λ (r : Result _ _). r >>= next) is ∙ rest

pub all_steps : (names : List (List ℕ)) (default : ℕ) (drawn : List DrawnSource) (flats : List FlatSource) (outlined : List OutlinedSource)
    → are_resolved flats (default_first default (length drawn)) ≡ Ok tt → have_bases names (default_drawn drawn default) drawn ≡ Ok tt → are_flat flats (default_first default (length drawn)) ≡ Ok tt
    → outlined ≡ outlined_sources flats → have_shapes names (default_outlined outlined default) outlined ≡ Ok tt → are_few outlined (default_first default (length drawn)) ≡ Ok tt
    → outlined_of names default drawn flats ≡ Ok outlined
unfolding outlined_of
all_steps names default drawn flats outlined resolved bases flat are shapes few =
    after _ _ tt _ resolved (after _ _ tt _ bases (after _ _ tt _ flat
    (after _ _ tt _ (subst (λ (sources : List OutlinedSource). have_shapes names (default_outlined sources default) sources ≡ Ok tt) are shapes)
    (after _ _ tt _ (subst (λ (sources : List OutlinedSource). are_few sources (default_first default (length drawn)) ≡ Ok tt) are few) (ap Ok (sym are))))))

-- a test of what is seen in place of lists is one of the lists
pub seen_so : {A B R : Type 0} (f : A → B → R) (a b : A) (c d : B) (r : R) → a ≡ b → c ≡ d → f a c ≡ r → f b d ≡ r
seen_so f a b c d r first second is = sym (ap (λ x. f x c) first ∙ ap (f b) second) ∙ is

-- an item that was read stands at its place among the items that are seen so
pub default_is : {A : Type 0} (seen items : List A) (default : ℕ) (item none : A) → seen ≡ items → item ≡ get_or seen default item → default < length items → item ≡ get_or items default none
default_is seen items default item none same is below =
    is ∙ (ap (λ (list : List _). get_or list default item) same ∙ get_or_default items default item none below)

-- ---- where one of the steps stops

pub stop_at : {A B : Type 0} (step : Result A Fault) (next : A → Result B Fault) (stop : ReadStop) → StopsBy stop step → StopsBy stop (step >>= next)
stop_at step next (Refused fault) stops = ap (λ (r : Result _ Fault). r >>= next) stops
stop_at step next (ReadFault path) stops = tt
stop_at step next NoMemory stops = tt

stop_after : {A B : Type 0} (step : Result A Fault) (next : A → Result B Fault) (x : A) (stop : ReadStop) → step ≡ Ok x → StopsBy stop (next x) → StopsBy stop (step >>= next)
stop_after step next x stop is stops = subst (λ (r : Result _ Fault). StopsBy stop (r >>= next)) (sym is) stops

-- a stop of what is seen in place of lists is one of the lists
pub stop_seen : {A B V : Type 0} (f : A → B → Result V Fault) (a b : A) (c d : B) (stop : ReadStop) → a ≡ b → c ≡ d → StopsBy stop (f a c) → StopsBy stop (f b d)
stop_seen f a b c d stop first second stops =
    subst (λ y. StopsBy stop (f b y)) second (subst (λ x. StopsBy stop (f x c)) first stops)

module _ (names : List (List ℕ)) (default : ℕ) (drawn : List DrawnSource) (flats : List FlatSource) (stop : ReadStop) (resolved : are_resolved flats (default_first default (length drawn)) ≡ Ok tt) where
  pub bases_stop : StopsBy stop (have_bases names (default_drawn drawn default) drawn) → StopsBy stop (outlined_of names default drawn flats)
  unfolding outlined_of
  bases_stop stops = stop_after _ _ tt stop resolved (stop_at _ _ stop stops)

  pub flat_stop : have_bases names (default_drawn drawn default) drawn ≡ Ok tt → StopsBy stop (are_flat flats (default_first default (length drawn))) → StopsBy stop (outlined_of names default drawn flats)
  unfolding outlined_of
  flat_stop bases stops = stop_after _ _ tt stop resolved (stop_after _ _ tt stop bases (stop_at _ _ stop stops))

  pub shapes_stop : have_bases names (default_drawn drawn default) drawn ≡ Ok tt → are_flat flats (default_first default (length drawn)) ≡ Ok tt
      → StopsBy stop (have_shapes names (default_outlined (outlined_sources flats) default) (outlined_sources flats)) → StopsBy stop (outlined_of names default drawn flats)
  unfolding outlined_of
  shapes_stop bases flat stops = stop_after _ _ tt stop resolved (stop_after _ _ tt stop bases (stop_after _ _ tt stop flat (stop_at _ _ stop stops)))

  pub few_stop : have_bases names (default_drawn drawn default) drawn ≡ Ok tt → are_flat flats (default_first default (length drawn)) ≡ Ok tt
      → have_shapes names (default_outlined (outlined_sources flats) default) (outlined_sources flats) ≡ Ok tt
      → StopsBy stop (are_few (outlined_sources flats) (default_first default (length drawn))) → StopsBy stop (outlined_of names default drawn flats)
  unfolding outlined_of
  few_stop bases flat shapes stops = stop_after _ _ tt stop resolved (stop_after _ _ tt stop bases (stop_after _ _ tt stop flat (stop_after _ _ tt stop shapes (stop_at _ _ stop stops))))
