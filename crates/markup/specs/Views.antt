-- What the values that code holds stand for.
use Rattle.std.specs.Prelude.{ℕ, Bool, not, ◌==◌, ◌&&◌, List, map, Option, Some, None, encode_utf8, string_bytes, if◌then◌else◌}
use Rattle.std.specs.Char.{is_ascii}
use Rattle.std.specs.Str.{is_utf8}
use Rattle.std.specs.List.{list_all}
use Rattle.markup_rules.specs.Bytes.{is_literal}
use Rattle.markup.specs.declared.tag.Attribute.{Attribute}
use Rattle.markup_rules.specs.Reading as rules
use Rattle.markup_rules.specs.Reading.{comment, instruction, declaration, tag, broken, unended, data_between, data_to_end}
use Rattle.markup.specs.declared.items.Item.{Item}
use Rattle.markup.specs.declared.items.Item.TheVariants.{Comment, Instruction, Declaration, Tag, Broken, Unended, DataBetween, DataToEnd}
use Rattle.markup_rules.specs.Reading.{finish, aside, doctype, content, bad}
use Rattle.markup.specs.declared.markup.Opening.{Opening}
use Rattle.markup.specs.declared.markup.Markup.{Markup}
use Rattle.markup.specs.declared.markup.Markup.TheVariants.{Finish, Aside, Doctype, Content, Bad}
use Rattle.markup.specs.Openings.{opened_as}
use Rattle.markup.specs.declared.text.Piece.{Piece}
use Rattle.markup.specs.declared.text.Piece.TheVariants.{Run, Character}
use Rattle.markup.specs.declared.text.Text.{Text}
use Rattle.markup.specs.declared.text.Text.TheVariants.{Borrowed, Owned}
use Rattle.basics.specs.Bytes.{is_blank}

-- the bytes, if they are UTF-8
abbrev pub utf8_of : List ℕ → Option (List ℕ)
utf8_of bytes = if is_utf8 bytes then Some bytes else None

-- a byte of ASCII that stands for itself in content
abbrev pub is_plain_ascii : ℕ → Bool
is_plain_ascii b = is_literal b && is_ascii b

-- and that is no quote
abbrev pub is_unquoted : ℕ → Bool
is_unquoted b = is_plain_ascii b && (not (b == 34) && not (b == 39))

abbrev pub piece_bytes : Piece → List ℕ
piece_bytes (Run text) = text.now
piece_bytes (Character c) = encode_utf8 c

abbrev pub text_bytes : Text → List ℕ
text_bytes (Borrowed text) = text.now
text_bytes (Owned text) = string_bytes text

abbrev pub attribute_view : Attribute → List ℕ × List ℕ
attribute_view a = (a.name.now, text_bytes a.value)

abbrev pub item_view : Item → rules.Item
item_view (Comment body) = comment body.now
item_view (Instruction body) = instruction body.now
item_view (Declaration body) = declaration body.now
item_view (Tag body) = tag body.now
item_view Broken = broken
item_view Unended = unended
item_view (DataBetween bytes) = data_between bytes.now
item_view (DataToEnd bytes) = data_to_end bytes.now

-- an opening with the attributes that were gathered, and what follows it
abbrev pub opening_view : List Attribute → Opening → rules.Markup × List ℕ
opening_view kept o = (opened_as (record { name = o.name.now; attributes = map attribute_view kept }) o.has_slash, o.rest.now)

abbrev pub markup_view : Markup → rules.Markup
markup_view (Finish name) = finish name.now
markup_view Aside = aside
markup_view Doctype = doctype
markup_view (Content bytes text) = content (list_all is_blank bytes.now) (text_bytes text)
markup_view Bad = bad
