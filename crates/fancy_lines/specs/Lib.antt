pub mod LineColumns
