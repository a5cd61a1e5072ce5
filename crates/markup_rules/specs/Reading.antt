-- Source texts read from left to right: what stands at the start, piece by piece, and what follows it.
use Rattle.std.specs.Prelude.{◌≡◌, ℕ, zero, suc, ◌+◌, Bool, true, false, ◌&&◌, ◌||◌, List, [], ◌∷◌, length, take, drop, codes, Option, Some, None, ◌==◌, nat_lt, encode_utf8, is_none, unwrap_or, option_map, if◌then◌else◌}
use Rattle.std.specs.List.{list_all, concat}
use Rattle.std.specs.Str.{is_utf8, bytes_eq}
use Rattle.std.specs.Str.Parse.{digits_value}
use Rattle.std.specs.Char.{is_ascii_digit, is_ascii_hexdigit}
use Rattle.markup_rules.specs.Bytes.{is_literal, is_name_byte, is_text, is_doctype, is_allowed, starts_name, starts_blank}
use Rattle.markup_rules.specs.Syntax.{firsts}
use Rattle.basics.specs.Bytes.{is_blank, run_at, after_run, begins, first_index, index_of}
use Rattle.basics.specs.Optional.{◌>>=◌}

-- one more value before those that were found
abbrev pub with_first : {A : Type 0} → A → Option (List A × List ℕ) → Option (List A × List ℕ)
with_first x None = None
with_first x (Some more) = Some (x ∷ more.0, more.1)

abbrev pub no_more : {A : Type 0} → List ℕ → Option (List A × List ℕ)
no_more bytes = Some ([], bytes)

-- items one after another up to an end, and what stands there; fuel: at most so many
abbrev pub many_to : {A : Type 0} → (List ℕ → Bool) → (List ℕ → Option (A × List ℕ)) → ℕ → List ℕ → Option (List A × List ℕ)
many_to ends item zero bytes = None
many_to ends item (suc n) bytes =
    if ends bytes then no_more bytes else (item bytes >>= λ x. with_first x.0 (many_to ends item n x.1))

-- each takes a byte at least, so that there are no more than bytes
unfoldable pub many : {A : Type 0} → (List ℕ → Bool) → (List ℕ → Option (A × List ℕ)) → List ℕ → Option (List A × List ℕ)
many ends item bytes = many_to ends item (suc (length bytes)) bytes

-- ---- names

unfoldable pub name_at : List ℕ → Option (List ℕ × List ℕ)
name_at bytes = if starts_name bytes && is_utf8 (run_at is_name_byte bytes) then Some (run_at is_name_byte bytes, after_run is_name_byte bytes) else None

-- ---- references

-- the character of a number, if it may stand in a source text
unfoldable pub allowed : ℕ → Option ℕ
allowed n = if is_allowed n then Some n else None

unfoldable pub numbered : ℕ → (ℕ → Bool) → List ℕ → Option ℕ
numbered radix class digits = if nat_lt 0 (length digits) && list_all class digits then allowed (digits_value radix digits) else None

-- of what stands after #; 120 is the x
unfoldable pub number_of : List ℕ → Option ℕ
number_of [] = None
number_of (b ∷ bytes) = if b == 120 then numbered 16 is_ascii_hexdigit bytes else numbered 10 is_ascii_digit (b ∷ bytes)

-- 35 is the number sign
unfoldable pub number_reference : List ℕ → Option ℕ
number_reference [] = None
number_reference (b ∷ bytes) = if b == 35 then number_of bytes else None

-- the character of what stands between & and ;
unfoldable pub character_of : List ℕ → Option ℕ
character_of body =
    if bytes_eq body (codes "amp") then Some 38 else
    (if bytes_eq body (codes "lt") then Some 60 else
    (if bytes_eq body (codes "gt") then Some 62 else
    (if bytes_eq body (codes "quot") then Some 34 else
    (if bytes_eq body (codes "apos") then Some 39 else number_reference body))))

-- after &, as the bytes of its character; 59 is the semicolon
unfoldable pub reference_at : List ℕ → Option (List ℕ × List ℕ)
reference_at bytes = do
  end ← index_of 59 bytes
  c ← character_of (take end bytes)
  Some (encode_utf8 c, drop (end + 1) bytes)

-- ---- characters and references

unfoldable pub run_of : List ℕ → Option (List ℕ × List ℕ)
run_of bytes = if nat_lt 0 (length (run_at is_literal bytes)) && is_utf8 (run_at is_literal bytes) then Some (run_at is_literal bytes, after_run is_literal bytes) else None

unfoldable pub piece_at : List ℕ → Option (List ℕ × List ℕ)
piece_at [] = None
piece_at (b ∷ bytes) = if b == 38 then reference_at bytes else run_of (b ∷ bytes)

abbrev pub is_nil : {A : Type 0} → List A → Bool
is_nil [] = true
is_nil (x ∷ xs) = false

-- what characters and references mean
unfoldable pub content_of : List ℕ → Option (List ℕ)
content_of bytes = do
  pieces ← many is_nil piece_at bytes
  Some (concat pieces.0)

-- ---- attributes

unfoldable pub blank_at : List ℕ → Option (List ℕ)
blank_at bytes = if starts_blank bytes then Some (after_run is_blank bytes) else None

-- the equals sign is 61
unfoldable pub equals_at : List ℕ → Option (List ℕ)
equals_at [] = None
equals_at (b ∷ bytes) = if b == 61 then Some bytes else None

-- what stands between two equal quotes
unfoldable pub quoted_at : List ℕ → Option (List ℕ × List ℕ)
quoted_at [] = None
quoted_at (b ∷ bytes) = if (b == 34) || (b == 39) then (index_of b bytes >>= λ end. Some (take end bytes, drop (end + 1) bytes)) else None

unfoldable pub value_at : List ℕ → Option (List ℕ × List ℕ)
value_at bytes = do
  value ← quoted_at bytes
  text ← content_of value.0
  Some (text, value.1)

-- a name with its equals sign
unfoldable pub label_at : List ℕ → Option (List ℕ × List ℕ)
label_at bytes = do
  rest ← blank_at bytes
  name ← name_at rest
  rest ← equals_at (after_run is_blank name.1)
  Some (name.0, after_run is_blank rest)

unfoldable pub attribute_at : List ℕ → Option ((List ℕ × List ℕ) × List ℕ)
attribute_at bytes = do
  label ← label_at bytes
  value ← value_at label.1
  Some ((label.0, value.0), value.1)

abbrev pub is_slash : List ℕ → Bool
is_slash bytes = bytes_eq bytes (codes "/")

-- after the attributes of a tag: white space, and / where the element is empty
abbrev pub is_tag_end : List ℕ → Bool
is_tag_end bytes = is_nil (after_run is_blank bytes) || is_slash (after_run is_blank bytes)

-- the attributes of a tag, of those with one name the first, and what ends the tag
unfoldable pub attributes_at : List ℕ → Option (List (List ℕ × List ℕ) × List ℕ)
attributes_at bytes = do
  attributes ← many is_tag_end attribute_at bytes
  Some (firsts [] attributes.0, attributes.1)

-- ---- items

-- an item of a source text, which a first look cuts off: its body is what stands between its marks. A tag is
-- broken where < stands in it, and an item that the text's end cuts off is unended
pub data Item : Type 0 where
  comment : (body : List ℕ) → Item
  instruction : (body : List ℕ) → Item
  declaration : (body : List ℕ) → Item
  tag : (body : List ℕ) → Item
  broken : Item
  unended : Item
  data_between : (bytes : List ℕ) → Item
  data_to_end : (bytes : List ℕ) → Item

-- the body up to a mark of some size that ends it
abbrev pub body_by : (List ℕ → Item) → ℕ → List ℕ → Option ℕ → Item × List ℕ
body_by item size bytes None = (unended, [])
body_by item size bytes (Some n) = (item (take n bytes), drop (n + size) bytes)

-- where quotes are open: the open quote, after one byte more
abbrev pub quote_after : Option ℕ → ℕ → Option ℕ
quote_after None b = if (b == 34) || (b == 39) then Some b else None
quote_after (Some quote) b = if b == quote then None else Some quote

abbrev pub ends_tag : Option ℕ → ℕ → Bool
ends_tag quote b = (b == 60) || ((b == 62) && is_none quote)

-- the first > outside quotes, or the first <
abbrev pub tag_end : Option ℕ → List ℕ → Option ℕ
tag_end quote [] = None
tag_end quote (b ∷ bytes) = if ends_tag quote b then Some 0 else option_map (λ n. n + 1) (tag_end (quote_after quote b) bytes)

abbrev pub tag_before : List ℕ → List ℕ → Item × List ℕ
tag_before body [] = (unended, [])
tag_before body (b ∷ bytes) = if b == 60 then (broken, b ∷ bytes) else (tag body, bytes)

abbrev pub tag_by : List ℕ → Option ℕ → Item × List ℕ
tag_by bytes None = (unended, [])
tag_by bytes (Some n) = tag_before (take n bytes) (drop n bytes)

-- after <
unfoldable pub markup_at : List ℕ → Item × List ℕ
markup_at bytes =
    if begins (codes "!--") bytes then body_by comment 3 (drop 3 bytes) (first_index (begins (codes "-->")) (drop 3 bytes)) else
    (if begins (codes "?") bytes then body_by instruction 2 (drop 1 bytes) (first_index (begins (codes "?>")) (drop 1 bytes)) else
    (if begins (codes "!") bytes then body_by declaration 1 (drop 1 bytes) (index_of 62 (drop 1 bytes)) else tag_by bytes (tag_end None bytes)))

abbrev pub data_by : List ℕ → Option ℕ → Item × List ℕ
data_by bytes None = (data_to_end bytes, [])
data_by bytes (Some n) = (data_between (take n bytes), drop n bytes)

-- the item at the start, and what follows it
unfoldable pub item_at : List ℕ → Item × List ℕ
item_at [] = (unended, [])
item_at (b ∷ bytes) = if b == 60 then markup_at bytes else data_by (b ∷ bytes) (index_of 60 (b ∷ bytes))

-- whether the bytes are < and a byte with which names begin
abbrev pub opens : List ℕ → Bool
opens [] = false
opens (b ∷ bytes) = (b == 60) && starts_name bytes

-- an item, with how many bytes are left where it begins
pub record Entry : Type 0 where
  pub left : ℕ
  pub opening : Bool
  pub item : Item

abbrev pub items_to : ℕ → List ℕ → List Entry
items_to fuel [] = []
items_to zero (b ∷ bytes) = []
items_to (suc n) (b ∷ bytes) =
    record { left = length (b ∷ bytes); opening = opens (b ∷ bytes); item = (item_at (b ∷ bytes)).0 } ∷ items_to n (item_at (b ∷ bytes)).1

-- the text cut into items, from the prefix
unfoldable pub items_of : List ℕ → List Entry
items_of bytes = items_to (length bytes) bytes

-- ---- what an item is

pub record Opening : Type 0 where
  pub name : List ℕ
  pub attributes : List (List ℕ × List ℕ)

pub data Markup : Type 0 where
  start : (opening : Opening) → Markup
  empty : (opening : Opening) → Markup
  finish : (name : List ℕ) → Markup
  aside : Markup
  doctype : Markup
  content : (blank : Bool) (text : List ℕ) → Markup
  bad : Markup

abbrev pub opened : Opening → List ℕ → Markup
opened opening rest = if is_nil (after_run is_blank rest) then start opening else empty opening

unfoldable pub start_tag : List ℕ → Option Markup
start_tag body = do
  name ← name_at body
  attributes ← attributes_at name.1
  Some (opened (record { name = name.0; attributes = attributes.0 }) attributes.1)

unfoldable pub end_tag : List ℕ → Option Markup
end_tag body = do
  name ← name_at body
  if list_all is_blank name.1 then Some (finish name.0) else None

unfoldable pub tag_markup : List ℕ → Option Markup
tag_markup [] = None
tag_markup (b ∷ body) = if b == 47 then end_tag body else start_tag (b ∷ body)

unfoldable pub data_markup : List ℕ → Option Markup
data_markup bytes = do
  text ← content_of bytes
  Some (content (list_all is_blank bytes) text)

abbrev pub if_right : Bool → Markup → Markup
if_right right markup = if right then markup else bad

unfoldable pub comment_markup : List ℕ → Markup
comment_markup body = if_right (is_none (first_index (begins (codes "--")) body) && is_text body) aside

unfoldable pub instruction_markup : List ℕ → Markup
instruction_markup body = if_right (is_text body) aside

unfoldable pub declaration_markup : List ℕ → Markup
declaration_markup body = if_right (begins (codes "DOCTYPE") body && is_doctype (drop 7 body)) doctype

unfoldable pub markup_of : Item → Markup
markup_of (comment body) = comment_markup body
markup_of (instruction body) = instruction_markup body
markup_of (declaration body) = declaration_markup body
markup_of (tag body) = unwrap_or (tag_markup body) bad
markup_of broken = bad
markup_of unended = bad
markup_of (data_between bytes) = unwrap_or (data_markup bytes) bad
markup_of (data_to_end bytes) = unwrap_or (data_markup bytes) bad
