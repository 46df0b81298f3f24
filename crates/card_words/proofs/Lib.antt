pub mod RecipeTexts
