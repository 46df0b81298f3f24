-- The links of a book: their numbers, and what follows each. Assumes nothing.
use Rattle.std.specs.Prelude.{◌≡◌, ℕ, zero, suc, ◌≤◌, Some, None, Ok, Err, Option, Result}
use Rattle.layouts.specs.declared.book.BookLink.{BookLink}
use Rattle.layouts.specs.declared.book.BookLink.TheVariants.{Next, Origin, Replacement}
use Rattle.layouts.specs.declared.book.UnknownLink.{UnknownLink}

abbrev pub link_number : BookLink → ℕ
link_number Next = 0
link_number Origin = 1
link_number Replacement = 2

-- a next link leads on by next links, and the others by replacements
abbrev pub link_following : BookLink → BookLink
link_following Next = Next
link_following Origin = Replacement
link_following Replacement = Replacement

-- the same by numbers: 0, 2, 2
abbrev pub book_follow : ℕ → ℕ
book_follow zero = 0
book_follow (suc x) = 2

-- the link of this number; none from 3 on
abbrev pub NamesLink : ℕ → Option BookLink → Type 0
NamesLink n (Some l) = link_number l ≡ n
NamesLink n None = 3 ≤ n

-- the link that a number names, or an error that says which number named none
abbrev pub DecodesLink : ℕ → Result BookLink UnknownLink → Type 0
DecodesLink n (Ok l) = NamesLink n (Some l)
DecodesLink n (Err e) = NamesLink n None × (e.number ≡ n)
